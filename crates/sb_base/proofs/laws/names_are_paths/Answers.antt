use Rattle.sb_base.proofs.Paths.{names_are_paths}
use Rattle.sb_base.proofs.laws.names_are_paths.Goals as goal

pub returns : goal.returns
returns c = names_are_paths
