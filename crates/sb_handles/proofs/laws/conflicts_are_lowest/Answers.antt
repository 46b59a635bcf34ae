use Rattle.sb_handles.proofs.ConflictLaws.{conflicts_are_lowest}
use Rattle.sb_handles.proofs.laws.conflicts_are_lowest.Goals as goal

pub returns-clause-lowest : goal.returns-clause-lowest
returns-clause-lowest c = conflicts_are_lowest
