use Rattle.sb_pool.proofs.Rigid.{looked_none}
use Rattle.sb_pool.proofs.laws.establish_looks_are_true.Goals as goal

pub returns : goal.returns
returns c works seats words after views id v w counts at_id all look later = looked_none works seats words after views counts id v w at_id all look later
