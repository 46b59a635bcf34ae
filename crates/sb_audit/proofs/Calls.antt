-- The decision on the whole block of a call.
use Rattle.std.proofs.Common.{◌≡◌, refl, ap, ℕ, List, true, ◌&&◌}
use Rattle.std.proofs.lemmas.Bool.{and_parts}
use Rattle.std.specs.List.{list_all}
use Rattle.sb_block.specs.Blocks.{block, encodes, has_units}
use Rattle.sb_block.specs.Laws.{BlocksComeBack}
use Rattle.sb_book.specs.Decisions.{by_decoded, by_verdict}
use Rattle.sb_call.specs.Arguments.{fits}
use Rattle.sb_call.specs.declared.arguments.Arg.{Arg}
use Rattle.sb_call.specs.declared.tags.CallTag.{CallTag}
use Rattle.sb_transcript.specs.Printed.{shown_decision}
use Rattle.sb_transcript.specs.declared.read_lines.ShownDecision.{ShownDecision}
use Rattle.sb_transcript.specs.declared.read_lines.ShownDecision.TheVariants as shown
use Rattle.sb_rule.specs.Verdicts.{verdict_of}
use Rattle.sb_rule.specs.declared.actions.Action.TheVariants.{ReadOnly}
use Rattle.sb_rule.specs.declared.policies.Policy.{Policy}
use Rattle.sb_statements.specs.declared.statements.Statement.TheVariants.{Call}
use Rattle.std.specs.Prelude.{Some, nat_le, length}
use Rattle.sb_block.specs.Layout.{most_words}
use Rattle.sb_audit.specs.Clauses.{has_rule, is_allow, is_decided, only_reads, shows_rule}
use Rattle.sb_audit.specs.Comparing.{same_decision}
use Rattle.sb_actor.specs.Found.{is_encoded}
use Rattle.sb_audit.specs.Kept.{shown_fits}

pub call_decided : BlocksComeBack → (policy : Policy) (tag : CallTag) (args : List Arg) (mark : ℕ) (d : ShownDecision) → is_encoded (Call tag args) ≡ true
    → is_decided policy mark d (Some (Call tag args)) ≡ same_decision d (shown_decision (by_verdict tag args (verdict_of policy tag args)))
call_decided law policy tag args mark d h =
    let parts = and_parts (encodes tag args) (list_all has_units args) h in
    ap (λ decoded. same_decision d (shown_decision (by_decoded policy decoded))) (law tag args mark parts.0 parts.1).1

pub call_fits : (tag : CallTag) (args : List Arg) → is_encoded (Call tag args) ≡ true → fits tag args ≡ true
call_fits tag args h =
    let parts = and_parts (encodes tag args) (list_all has_units args) h in
    (and_parts (fits tag args) (nat_le (length (block tag args 0)) most_words) parts.0).0

-- what a line shows as performed fits its call if what it shows of its rule is right
pub rule_fits : (policy : Policy) (d : ShownDecision) → shows_rule policy d ≡ true → shown_fits d ≡ true
rule_fits policy (shown.Allowed tag args n) h = (and_parts (fits tag args) (is_allow n (verdict_of policy tag args)) h).0
rule_fits policy (shown.ReadOnly tag args n) h =
    (and_parts (fits tag args) (has_rule policy tag n ReadOnly) (and_parts (fits tag args && has_rule policy tag n ReadOnly) (only_reads args) h).0).0
rule_fits policy (shown.Refused fault) h = refl
rule_fits policy (shown.NoRule tag) h = refl
rule_fits policy (shown.Denied tag n) h = refl
rule_fits policy (shown.Alarmed tag n) h = refl
rule_fits policy (shown.Faked tag n) h = refl
