use Rattle.sb_host.proofs.CallerSteps.{as_callers}
use Rattle.sb_host.proofs.laws.calls_go_as_callers.Goals as goal

pub returns : goal.returns
returns c = as_callers
