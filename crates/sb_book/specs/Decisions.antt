-- What the broker decides of a copy.
use Rattle.std.specs.Prelude.{Bool, true, List, ◌∷◌, Result, Ok, Err, bit_and}
use Rattle.sb_call.specs.Arguments.{fits}
use Rattle.sb_call.specs.declared.tags.CallTag.{CallTag}
use Rattle.sb_call.specs.declared.arguments.Arg.{Arg}
use Rattle.sb_call.specs.declared.arguments.Arg.TheVariants.{Num}
use Rattle.sb_block.specs.Copies.{Copied}
use Rattle.sb_block.specs.Calls.{decoded}
use Rattle.sb_block.specs.declared.faults.BlockFault.{BlockFault}
use Rattle.sb_block.specs.declared.calls.Call.{Call}
use Rattle.sb_rule.specs.Accesses.{read_only_bits}
use Rattle.sb_rule.specs.Verdicts.{verdict_of}
use Rattle.sb_rule.specs.declared.actions.Action.TheVariants.{Allow, Deny, Alarm, Fake, ReadOnly}
use Rattle.sb_rule.specs.declared.policies.Policy.{Policy}
use Rattle.sb_rule.specs.declared.verdicts.Verdict.{Verdict}
use Rattle.sb_rule.specs.declared.verdicts.Verdict.TheVariants as verdict
use Rattle.sb_book.specs.declared.decisions.Decision.{Decision}
use Rattle.sb_book.specs.declared.decisions.Decision.TheVariants.{Refused, Denied, Faked, Performed}

-- the arguments with the access, the second of them, cut to the bits that only read
abbrev pub read_only_args : List Arg → List Arg
read_only_args (first ∷ Num access ∷ more) = first ∷ Num (bit_and access read_only_bits) ∷ more
read_only_args args = args

-- what a verdict on a call decides
abbrev pub by_verdict : CallTag → List Arg → Verdict → Decision
by_verdict tag args (verdict.Rule line Allow) = Performed tag line Allow args
by_verdict tag args (verdict.Rule line ReadOnly) = Performed tag line ReadOnly (read_only_args args)
by_verdict tag args (verdict.Rule line Fake) = Faked tag line
by_verdict tag args (verdict.Rule line Deny) = Denied tag (verdict.Rule line Deny)
by_verdict tag args (verdict.Rule line Alarm) = Denied tag (verdict.Rule line Alarm)
by_verdict tag args verdict.NoRule = Denied tag verdict.NoRule

-- a fault refuses the block, and otherwise the policy decides on its call
abbrev pub by_decoded : Policy → Result Call BlockFault → Decision
by_decoded policy (Err fault) = Refused fault
by_decoded policy (Ok call) = by_verdict call.tag call.args (verdict_of policy call.tag call.args)

-- the decision of a policy on a copy
abbrev pub decision_of : Policy → Copied → Decision
decision_of policy copy = by_decoded policy (decoded copy)

-- what is performed has arguments that fit its call
abbrev pub is_fitting : Decision → Bool
is_fitting (Performed tag line action args) = fits tag args
is_fitting (Refused fault) = true
is_fitting (Denied tag verdict) = true
is_fitting (Faked tag line) = true
