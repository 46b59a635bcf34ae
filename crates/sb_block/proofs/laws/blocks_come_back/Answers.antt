use Rattle.sb_block.proofs.WholeBlocks.{blocks_come_back}
use Rattle.sb_block.proofs.laws.blocks_come_back.Goals as goal

pub returns : goal.returns
returns c = blocks_come_back
