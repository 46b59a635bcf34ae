use Rattle.std.specs.List.{flat_map}
use Rattle.std.proofs.Common.{◌≡◌, ◌∷◌, take}
use Rattle.sb_cover.specs.CallAccesses.{writes}
use Rattle.sb_rule.specs.Verdicts.{verdict_of}
use Rattle.sb_compare.specs.Classes.{bit_of, verdict_numbers}
use Rattle.sb_compare.proofs.classes.class_of.Given as goal

abbrev pub invariant-loop-policy : goal.invariant-loop-policy
invariant-loop-policy l = l.numbers.items ≡ bit_of (writes l.tag l.args) ∷ flat_map (λ policy. verdict_numbers (verdict_of policy l.tag l.args)) (take l.policy-index l.policies)
