use Rattle.sb_shared.proofs.Ending.{closed_runs_are_runs}
use Rattle.sb_shared.proofs.laws.closed_runs_are_runs.Goals as goal

pub returns : goal.returns
returns c = closed_runs_are_runs c.ends_are_runs.ensures.runs c.ends_are_runs.ensures.finish
