use Rattle.sb_core.proofs.Beginning.{left_begun, left_drained}
use Rattle.sb_core.proofs.Belonging.{of_runs}
use Rattle.sb_core.proofs.worlds.World.drain.Goals as goal

pub returns-in_err-settle-clause-running : goal.returns-in_err-settle-clause-running
returns-in_err-settle-clause-running g c =
    λ script runs.
    (left_begun c.sound_parts.ensures.statements script c.args.self.now c.settle.new.world c.establish_kept.ensures runs c.in_err-settle.ensures.err).running

pub returns-in_err-settle-clause-of_script : goal.returns-in_err-settle-clause-of_script
returns-in_err-settle-clause-of_script g c =
    λ script o.
    (left_begun c.sound_parts.ensures.statements script c.args.self.now c.settle.new.world c.establish_kept.ensures
    (of_runs c.sound_parts.ensures.targets c.sound_parts.ensures.statements script c.args.self.now o).1 c.in_err-settle.ensures.err).of_script o

pub returns-clause-running : goal.returns-clause-running
returns-clause-running g c =
    λ script runs.
    (left_drained c.sound_parts.ensures.statements script c.args.self.now c.settle.new.world c.establish_kept.ensures runs c.in_ok-settle.ensures.ok).running

pub returns-clause-of_script : goal.returns-clause-of_script
returns-clause-of_script g c =
    λ script o.
    (left_drained c.sound_parts.ensures.statements script c.args.self.now c.settle.new.world c.establish_kept.ensures
    (of_runs c.sound_parts.ensures.targets c.sound_parts.ensures.statements script c.args.self.now o).1 c.in_ok-settle.ensures.ok).of_script o
