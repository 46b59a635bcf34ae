use Rattle.std.proofs.Common.{◌∙◌, rules}
use Rattle.sb_core.proofs.Beginning.{after_error}
use Rattle.sb_core.proofs.drains.make_pass.Goals as goal

pub returns-in_err-worker_step-clause-err : goal.returns-in_err-worker_step-clause-err
returns-in_err-worker_step-clause-err g c =
    after_error c.from_residual.result (c.loop-target.target, search rules, c.in_err-worker_step.ensures.err ∙ c.loop-target.invariant.0)
