-- The notes of a policy text in words.
use Rattle.std.specs.Prelude.{ℕ, nat_lt, List, [], ◌∷◌, ◌++◌, length, take, if◌then◌else◌, codes}
use Rattle.std.specs.Fmt.{decimal}
use Rattle.std.specs.List.{flat_map}
use Rattle.sb_message.specs.Messages.{place_line}
use Rattle.sb_message.specs.Places.{shown_line}
use Rattle.sb_message.specs.declared.messages.FaultyText.TheVariants.{Policy}
use Rattle.sb_ruletext.specs.Notes.{notes_of}
use Rattle.sb_ruletext.specs.declared.note_kinds.NoteKind.{NoteKind}
use Rattle.sb_ruletext.specs.declared.note_kinds.NoteKind.TheVariants.{UnescapedPrefix, MatchesNoName}
use Rattle.sb_ruletext.specs.declared.notes.Note.{Note}
use Rattle.sb_text.specs.MissingTexts.{line_or_empty}

-- what is noted
abbrev pub note_words : NoteKind → List ℕ
note_words UnescapedPrefix = codes "each ? of \\??\\ matches any unit: write \\/?/?\\ for the prefix itself"
note_words MatchesNoName = codes "the pattern matches no name: each name begins with \\"

-- the first line of a note
abbrev pub note_headline : Note → List ℕ
note_headline note = codes "sandbox: note: policy line " ++ decimal note.line ++ codes ": " ++ note_words note.kind ++ 10 ∷ []

-- a note: what is noted, the place, and the line with a caret
unfoldable pub note_text : List ℕ → List ℕ → Note → List ℕ
note_text file text note =
    note_headline note ++ place_line file note.line note.column ++ shown_line Policy note.column (line_or_empty note.line text)

-- the number of notes, if not all are told one by one
abbrev pub number_text : ℕ → List ℕ
number_text number =
    if nat_lt 20 number then codes "sandbox: note: " ++ decimal number ++ codes " notes, of which the first 20 are shown\n" else []

-- the first 20 of these notes, and their number if there are more
abbrev pub notes_text : List ℕ → List ℕ → List Note → List ℕ
notes_text file text notes = flat_map (note_text file text) (take 20 notes) ++ number_text (length notes)

-- what is written of the notes of a policy file of this name with this text
abbrev pub notes_message : List ℕ → List ℕ → List ℕ
notes_message file text = notes_text file text (notes_of text)
