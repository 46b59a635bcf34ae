use Rattle.sb_actor.proofs.Blocks.{blocks_are_whole}
use Rattle.sb_actor.proofs.laws.blocks_are_whole.Goals as goal

pub returns : goal.returns
returns c = blocks_are_whole c.copies_are_whole.ensures.fetched c.blocks_come_back.ensures
