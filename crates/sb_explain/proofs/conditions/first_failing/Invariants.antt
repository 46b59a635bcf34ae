use Rattle.std.proofs.Common.{◌≡◌, drop}
use Rattle.sb_explain.specs.Reasons.{first_failing}
use Rattle.sb_explain.proofs.conditions.first_failing.Given as goal

abbrev pub invariant-loop-cond : goal.invariant-loop-cond
invariant-loop-cond l = first_failing (drop l.cond-index l.conds) l.args ≡ first_failing l.conds l.args
