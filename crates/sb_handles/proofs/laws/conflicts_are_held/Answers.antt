use Rattle.sb_handles.proofs.ConflictLaws.{conflicts_are_held}
use Rattle.sb_handles.proofs.laws.conflicts_are_held.Goals as goal

pub returns-clause-held : goal.returns-clause-held
returns-clause-held c = conflicts_are_held
