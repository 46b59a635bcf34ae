use Rattle.sb_core.proofs.Settling.{drains_settle}
use Rattle.sb_core.proofs.laws.drains_settle.Goals as goal

pub returns : goal.returns
returns c = drains_settle
