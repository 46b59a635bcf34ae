use Rattle.sb_index.proofs.SizeLemmas.{indexes_are_small}
use Rattle.sb_index.proofs.laws.indexes_are_small.Goals as goal

pub returns : goal.returns
returns c = indexes_are_small
