use Rattle.sb_link.proofs.Logs as logs
use Rattle.sb_link.proofs.laws.logs_are_counted.Goals as goal

pub returns : goal.returns
returns c = logs.logs_are_counted
