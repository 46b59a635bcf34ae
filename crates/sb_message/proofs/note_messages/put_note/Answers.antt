use Rattle.std.proofs.Common.{ap, string_bytes}
use Rattle.sb_message.specs.Messages.{place_line}
use Rattle.sb_message.specs.Places.{shown_line}
use Rattle.sb_message.specs.declared.messages.FaultyText.TheVariants.{Policy}
use Rattle.sb_message.specs.NoteMessages.{note_headline, note_text}
use Rattle.sb_text.specs.MissingTexts.{line_or_empty}
use Rattle.sb_message.proofs.NoteParts.{told_in_turn}
use Rattle.sb_message.proofs.note_messages.put_note.Goals as goal

pub returns : goal.returns
unfolding note_text
returns c =
    let note = c.args.note in
    let shown = shown_line Policy note.column in
    told_in_turn c.put_place.result (string_bytes c.args.out.now) (string_bytes c.put_note_headline.new.out) (string_bytes c.put_place.new.out)
    (note_headline note) (place_line c.args.file.now note.line note.column) (shown (line_or_empty note.line c.args.text.now)) (shown c.line_or_empty-line.result.now)
    c.in_ok-put_note_headline.ensures (ap shown c.line_or_empty-line.ensures.line) c.put_place.ensures
