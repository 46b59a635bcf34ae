-- Laws of histories and of decisions.
use Rattle.std.proofs.Common.{◌≡◌, ◌∙◌, List, [], ◌∷◌, ◌++◌, Option, None, Some, refl, sym, ap, subst}
use Rattle.std.specs.Prelude.{⊤}
use Rattle.std.specs.List.{filter}
use Rattle.sb_call.specs.declared.arguments.Arg.{Arg}
use Rattle.sb_call.specs.declared.tags.CallTag.{CallTag}
use Rattle.sb_block.specs.Calls.{call_of, call_unless}
use Rattle.sb_block.specs.Copies.{Copied}
use Rattle.sb_block.specs.Faults.{fault}
use Rattle.sb_block.specs.declared.faults.BlockFault.{BlockFault}
use Rattle.sb_kernel.specs.Namespaces.{Space}
use Rattle.sb_kernel.specs.Openings.{opening}
use Rattle.sb_rule.specs.Verdicts.{DecidingRuleIsFirst, verdict_of}
use Rattle.sb_rule.specs.declared.actions.Action.TheVariants.{Allow, Deny, Alarm, Fake, ReadOnly}
use Rattle.sb_rule.specs.declared.policies.Policy.{Policy}
use Rattle.sb_rule.specs.declared.verdicts.Verdict.{Verdict}
use Rattle.sb_rule.specs.declared.verdicts.Verdict.TheVariants as verdict
use Rattle.sb_book.specs.Decisions.{by_decoded, by_verdict, decision_of}
use Rattle.sb_book.specs.Histories.{Setting, IsLegalFrom, space_from, space_after}
use Rattle.sb_book.specs.Laws.{FrontsAreLegal, Grants, OnlyPerformedCallsCount, PerformedCallsAreAllowed, is_performed}
use Rattle.sb_book.specs.declared.decisions.Decision.{Decision}
use Rattle.sb_book.specs.declared.decisions.Decision.TheVariants.{Refused, Denied, Faked, Performed}
use Rattle.sb_book.specs.declared.entries.Entry.{Entry}

front_legal : (s : Setting) (ns : Space) (front rest : List Entry) → IsLegalFrom s ns (front ++ rest) → IsLegalFrom s ns front
front_legal s ns [] rest h = tt
front_legal s ns (e ∷ es) rest h = (h.0, front_legal s (space_after ns e.target e.decision) es rest h.1)

pub fronts_are_legal : FrontsAreLegal
fronts_are_legal s front rest h = front_legal s (opening s.start) front rest h

one_entry : (ns : Space) (e : Entry) (es : List Entry) (d : Decision) → e.decision ≡ d
    → ((after : Space) → space_from after (filter is_performed es) ≡ space_from after es)
    → space_from ns (filter is_performed (e ∷ es)) ≡ space_from ns (e ∷ es)
one_entry ns e es (Performed tag line action args) h more = rw h (more (space_after ns e.target (Performed tag line action args)))
one_entry ns e es (Refused f) h more = rw h (more ns)
one_entry ns e es (Denied tag v) h more = rw h (more ns)
one_entry ns e es (Faked tag line) h more = rw h (more ns)

pub only_performed_calls_count : OnlyPerformedCallsCount
only_performed_calls_count ns [] = refl
only_performed_calls_count ns (e ∷ es) = one_entry ns e es e.decision refl (λ after. only_performed_calls_count after es)

-- what is said of a decision on a call with this verdict, if it is performed
abbrev Allowed : CallTag → List Arg → Verdict → Decision → Type 0
Allowed asked asked_args v (Performed tag line action args) = (asked ≡ tag) × (v ≡ verdict.Rule line action) × Grants action asked_args args
Allowed asked asked_args v (Refused f) = ⊤
Allowed asked asked_args v (Denied tag w) = ⊤
Allowed asked asked_args v (Faked tag line) = ⊤

allowed : (tag : CallTag) (args : List Arg) (v : Verdict) → Allowed tag args v (by_verdict tag args v)
allowed tag args (verdict.Rule line Allow) = (refl, refl, refl)
allowed tag args (verdict.Rule line ReadOnly) = (refl, refl, refl)
allowed tag args (verdict.Rule line Fake) = tt
allowed tag args (verdict.Rule line Deny) = tt
allowed tag args (verdict.Rule line Alarm) = tt
allowed tag args verdict.NoRule = tt

allowed_copy : (policy : Policy) (copy : Copied)
    → Allowed (call_of copy).tag (call_of copy).args (verdict_of policy (call_of copy).tag (call_of copy).args) (decision_of policy copy)
allowed_copy policy copy = by (fault copy)
  where
    by : (o : Option BlockFault)
        → Allowed (call_of copy).tag (call_of copy).args (verdict_of policy (call_of copy).tag (call_of copy).args) (by_decoded policy (call_unless o (call_of copy)))
    by None = allowed (call_of copy).tag (call_of copy).args (verdict_of policy (call_of copy).tag (call_of copy).args)
    by (Some f) = tt

pub performed_calls_are_allowed : DecidingRuleIsFirst → PerformedCallsAreAllowed
performed_calls_are_allowed law policy copy tag line action args e =
    let asked = (call_of copy).tag in
    let found : (asked ≡ tag) × (verdict_of policy asked (call_of copy).args ≡ verdict.Rule line action) × Grants action (call_of copy).args args =
    subst (Allowed asked (call_of copy).args (verdict_of policy asked (call_of copy).args)) e (allowed_copy policy copy) in
    let by_rule = law policy.rules tag (call_of copy).args line action (ap (λ t. verdict_of policy t (call_of copy).args) (sym found.0) ∙ found.1) in
    record { call = found.0; rule = by_rule.0; first = by_rule.1; on_line = by_rule.2; by_action = by_rule.3; given = found.2 }
