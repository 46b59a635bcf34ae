use Rattle.std.proofs.Common.{◌≡◌, map, take}
use Rattle.sb_cover.specs.PolicyCovers.{question_of}
use Rattle.sb_cover.proofs.policy_covers.questions_of.Given as goal

abbrev pub invariant-loop-policy : goal.invariant-loop-policy
invariant-loop-policy l = l.questions.items ≡ map (λ policy. question_of policy.rules) (take l.policy-index l.policies)
