use Rattle.sb_base.proofs.Paths.{paths_are_names, paths_have_their_components}
use Rattle.sb_base.proofs.laws.paths_are_names.Goals as goal

pub returns-clause-names : goal.returns-clause-names
returns-clause-names c = paths_are_names

pub returns-clause-components : goal.returns-clause-components
returns-clause-components c = paths_have_their_components
