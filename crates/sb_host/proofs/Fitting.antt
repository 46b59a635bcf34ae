-- What is performed fits its call.
use Rattle.std.proofs.Common.{◌≡◌, ℕ, ◌≤◌, true, ◌&&◌, List, [], ◌∷◌, Option, None, Some, Result, Ok, Err, IfOk, refl, ap, ◌∙◌, arith}
use Rattle.std.specs.Prelude.{bit_and}
use Rattle.std.proofs.lemmas.Bool.{and_parts, false≢true}
use Rattle.std.proofs.lemmas.Bool.Decides.{nat_tests}
use Rattle.std.proofs.lemmas.Nat.{and_le_l}
use Rattle.sb_call.specs.Arguments.{fit, fits, fits_kind}
use Rattle.sb_call.specs.Tags.{shape_of}
use Rattle.sb_call.specs.declared.arguments.Arg.{Arg}
use Rattle.sb_call.specs.declared.arguments.Arg.TheVariants as arg
use Rattle.sb_call.specs.declared.tags.CallTag.{CallTag}
use Rattle.sb_call.specs.declared.tags.ParamKind.{ParamKind}
use Rattle.sb_call.specs.declared.tags.ParamKind.TheVariants.{Text, Name, Num, Handle}
use Rattle.sb_block.specs.Calls.{call_of, call_unless}
use Rattle.sb_block.specs.Copies.{Copied}
use Rattle.sb_block.specs.Faults.{fault}
use Rattle.sb_block.specs.Laws.{FaultlessCopiesFit}
use Rattle.sb_block.specs.declared.faults.BlockFault.{BlockFault}
use Rattle.sb_rule.specs.Verdicts.{verdict_of}
use Rattle.sb_rule.specs.declared.actions.Action.TheVariants.{Allow, Deny, Alarm, Fake, ReadOnly}
use Rattle.sb_rule.specs.declared.policies.Policy.{Policy}
use Rattle.sb_rule.specs.declared.verdicts.Verdict.{Verdict}
use Rattle.sb_rule.specs.declared.verdicts.Verdict.TheVariants as verdict
use Rattle.sb_book.specs.declared.decisions.Decision.{Decision}
use Rattle.sb_book.specs.Decisions.{by_decoded, by_verdict, decision_of, is_fitting, read_only_args}
use Rattle.sb_rule.specs.Accesses.{read_only_bits}

-- a number with fewer bits is of the same kind
cut_kind : (kind : ParamKind) (n : ℕ) → fits_kind kind (arg.Num n) ≡ true → fits_kind kind (arg.Num (bit_and n read_only_bits)) ≡ true
cut_kind Text n h = absurd (false≢true h)
cut_kind Name n h = absurd (false≢true h)
cut_kind Handle n h = refl
cut_kind Num n h =
    let less : bit_and n read_only_bits ≤ n = and_le_l n read_only_bits in
    grind (arith, nat_tests, less, h)

cut_fits : (kinds : List ParamKind) (args : List Arg) → fit kinds args ≡ true → fit kinds (read_only_args args) ≡ true
cut_fits kinds [] h = h
cut_fits kinds (a ∷ []) h = h
cut_fits kinds (a ∷ arg.Str us ∷ more) h = h
cut_fits [] (a ∷ arg.Num n ∷ more) h = absurd (false≢true h)
cut_fits (k ∷ []) (a ∷ arg.Num n ∷ more) h = h
cut_fits (k ∷ kind ∷ kinds) (a ∷ arg.Num n ∷ more) h =
    let first = and_parts (fits_kind k a) (fits_kind kind (arg.Num n) && fit kinds more) h in
    let second = and_parts (fits_kind kind (arg.Num n)) (fit kinds more) first.1 in
    rw (first.0, cut_kind kind n second.0) second.1

by_verdict_fits : (tag : CallTag) (args : List Arg) (v : Verdict) → fits tag args ≡ true → is_fitting (by_verdict tag args v) ≡ true
by_verdict_fits tag args (verdict.Rule line Allow) h = h
by_verdict_fits tag args (verdict.Rule line ReadOnly) h = cut_fits (shape_of tag) args h
by_verdict_fits tag args (verdict.Rule line Fake) h = refl
by_verdict_fits tag args (verdict.Rule line Deny) h = refl
by_verdict_fits tag args (verdict.Rule line Alarm) h = refl
by_verdict_fits tag args verdict.NoRule h = refl

-- what a policy decides on a copy fits
pub decided_fits : FaultlessCopiesFit → (policy : Policy) (copy : Copied) → is_fitting (decision_of policy copy) ≡ true
decided_fits law policy copy = by (fault copy) refl
  where
    by : (o : Option BlockFault) → fault copy ≡ o → is_fitting (by_decoded policy (call_unless o (call_of copy))) ≡ true
    by None e =
        by_verdict_fits (call_of copy).tag (call_of copy).args (verdict_of policy (call_of copy).tag (call_of copy).args) (law copy e)
    by (Some f) e = refl

pub if_decided : {E : Type 0} → FaultlessCopiesFit → (policy : Policy) (copy : Copied) (r : Result Decision E) → IfOk r (λ d. d ≡ decision_of policy copy)
    → IfOk r (λ d. is_fitting d ≡ true)
if_decided law policy copy (Ok d) h = ap is_fitting h ∙ decided_fits law policy copy
if_decided law policy copy (Err e) h = tt
