use Rattle.sb_message.proofs.CleanNotes.{notes_clean}
use Rattle.sb_message.proofs.note_laws.notes_are_clean.Goals as goal

pub returns : goal.returns
returns c = notes_clean
