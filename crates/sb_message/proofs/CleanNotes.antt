-- What is written of notes is clean.
use Rattle.std.proofs.Common.{◌≡◌, ℕ, Bool, true, false, cond, nat_lt, List, [], ◌∷◌, ◌++◌, length, take, codes, refl}
use Rattle.std.specs.Fmt.{decimal}
use Rattle.std.specs.List.{flat_map}
use Rattle.sb_glyphs.proofs.CleanLaws.{Spelled, clean_of, both, three, four, five, nothing, plain, decimal_clean, feed}
use Rattle.sb_message.proofs.CleanPlaces.{line_clean, place_clean}
use Rattle.sb_message.specs.Messages.{place_line}
use Rattle.sb_message.specs.Places.{shown_line}
use Rattle.sb_message.specs.declared.messages.FaultyText.TheVariants.{Policy}
use Rattle.sb_message.specs.NoteLaws.{NotesAreClean}
use Rattle.sb_message.specs.NoteMessages.{note_headline, note_text, note_words, notes_message, notes_text, number_text}
use Rattle.sb_text.specs.MissingTexts.{line_or_empty}
use Rattle.sb_ruletext.specs.Notes.{notes_of}
use Rattle.sb_ruletext.specs.declared.note_kinds.NoteKind.{NoteKind}
use Rattle.sb_ruletext.specs.declared.note_kinds.NoteKind.TheVariants.{UnescapedPrefix, MatchesNoName}
use Rattle.sb_ruletext.specs.declared.notes.Note.{Note}

words_clean : (kind : NoteKind) → Spelled (note_words kind)
words_clean UnescapedPrefix = plain (note_words UnescapedPrefix) refl
words_clean MatchesNoName = plain (note_words MatchesNoName) refl

headline_clean : (note : Note) → Spelled (note_headline note)
headline_clean note =
    five (codes "sandbox: note: policy line ") (decimal note.line) (codes ": ") (note_words note.kind) (10 ∷ [])
    (plain (codes "sandbox: note: policy line ") refl) (decimal_clean note.line) (plain (codes ": ") refl) (words_clean note.kind) feed

note_clean : (file text : List ℕ) (note : Note) → Spelled (note_text file text note)
unfolding note_text
note_clean file text note =
    three (note_headline note) (place_line file note.line note.column) (shown_line Policy note.column (line_or_empty note.line text)) (headline_clean note)
    (place_clean file note.line note.column) (line_clean Policy note.column (line_or_empty note.line text))

each_clean : (file text : List ℕ) (notes : List Note) → Spelled (flat_map (note_text file text) notes)
each_clean file text [] = nothing
each_clean file text (note ∷ notes) =
    both (note_text file text note) (flat_map (note_text file text) notes) (note_clean file text note) (each_clean file text notes)

if_clean : (b : Bool) (a : List ℕ) → Spelled a → Spelled (cond b a [])
if_clean true a h = h
if_clean false a h = nothing

number_clean : (number : ℕ) → Spelled (number_text number)
number_clean number =
    if_clean (nat_lt 20 number) (codes "sandbox: note: " ++ decimal number ++ codes " notes, of which the first 20 are shown\n")
    (three (codes "sandbox: note: ") (decimal number) (codes " notes, of which the first 20 are shown\n") (plain (codes "sandbox: note: ") refl) (decimal_clean number)
    (plain (codes " notes, of which the first 20 are shown\n") refl))

told_clean : (file text : List ℕ) (notes : List Note) → Spelled (notes_text file text notes)
told_clean file text notes =
    both (flat_map (note_text file text) (take 20 notes)) (number_text (length notes)) (each_clean file text (take 20 notes)) (number_clean (length notes))

pub notes_clean : NotesAreClean
notes_clean file text = clean_of (notes_message file text) (told_clean file text (notes_of text))
