use Rattle.sb_local.proofs.Serially.{denied_change_nothing}
use Rattle.sb_local.proofs.laws.denied_calls_change_nothing.Goals as goal

pub returns : goal.returns
returns c = denied_change_nothing c.blocks_come_back.ensures
