use Rattle.sb_trace.proofs.Folds.{lines_hold_steps}
use Rattle.sb_trace.proofs.laws.lines_hold_steps.Goals as goal

pub returns : goal.returns
returns c = lines_hold_steps
