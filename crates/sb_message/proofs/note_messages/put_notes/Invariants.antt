use Rattle.std.proofs.Common.{◌≡◌, ◌++◌, take, string_bytes}
use Rattle.std.specs.List.{flat_map}
use Rattle.sb_message.specs.NoteMessages.{note_text}
use Rattle.sb_message.proofs.note_messages.put_notes.Given as goal

abbrev pub invariant-loop-note : goal.invariant-loop-note
invariant-loop-note l = string_bytes l.out ≡ string_bytes l.initial.out ++ flat_map (note_text l.file l.text) (take l.note-index l.notes)
