use Rattle.sb_block.proofs.BlockLemmas.{block_len}
use Rattle.sb_block.proofs.encoding.has_small_block.Goals as goal

pub returns : goal.returns
returns c = rw (c.requires, block_len c.args.tag c.args.args.now 0 c.requires) c.is_small.ensures
