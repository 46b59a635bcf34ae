use Rattle.sb_message.proofs.TrueNotes.{notes_are_true}
use Rattle.sb_message.proofs.note_laws.notes_are_true.Goals as goal

pub returns : goal.returns
returns c = notes_are_true
