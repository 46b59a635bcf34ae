use Rattle.std.proofs.Common.{◌≡◌}
use Rattle.std.specs.Slice.Iter.{iter_rest}
use Rattle.sb_rule.specs.Verdicts.{verdict_by}
use Rattle.sb_rule.proofs.verdicts.verdict_plain.Given as goal

abbrev pub invariant-loop-rule : goal.invariant-loop-rule
invariant-loop-rule l = verdict_by (iter_rest l.rule-iterator) l.tag l.args ≡ verdict_by l.policy.rules l.tag l.args
