-- The notes of a policy text.
use Rattle.std.specs.Prelude.{ℕ, ◌+◌, ◌^◌, ◌&&◌, Bool, false, not, nat_lt, List, [], ◌∷◌, ◌++◌, length, Option, None, Some, is_none, if◌then◌else◌, codes}
use Rattle.std.specs.List.{flat_map}
use Rattle.sb_call.specs.CallWords.{is_word}
use Rattle.sb_ruletext.specs.NoteKinds.{kind_of}
use Rattle.sb_ruletext.specs.declared.note_kinds.NoteKind.{NoteKind}
use Rattle.sb_ruletext.specs.declared.notes.Note.{Note}
use Rattle.sb_text.specs.Lines.{NumberedLine, lines_of}
use Rattle.sb_text.specs.Columns.{column_at}
use Rattle.sb_text.specs.Steps.{begins_with, later}
use Rattle.sb_text.specs.Tokens.{Lexeme, Lexemes, Next, End, Word, Quoted, Bad, by_tokens, string_of, tokens_of}
use Rattle.sb_text.specs.Utf8.{not_utf8_place}

-- In a text without a fault a quoted token is a string if it follows the word `is`, and a pattern otherwise: after `like`, or after the word of a grant.

-- a token after which a quoted one is a string
abbrev pub follows_is : Lexeme → Bool
follows_is (Word w) = is_word (codes "is") w
follows_is (Quoted q) = false
follows_is Bad = false

-- what is noted of a token, if it is no string
abbrev pub note_at : Bool → Lexeme → Option NoteKind
note_at false (Quoted q) = kind_of (string_of q)
note_at is_string _ = None

-- the note of a token at a place of a line, if there is one
abbrev pub noted : NumberedLine → ℕ → Option NoteKind → List Note
noted line place None = []
noted line place (Some kind) = record { line = line.number; column = column_at by_tokens line.text place; kind = kind } ∷ []

-- the notes of the tokens of a line from one on, which is a string or not
abbrev pub notes_in : NumberedLine → Bool → Lexemes → List Note
notes_in line is_string (End place) = []
notes_in line is_string (Next place token tokens) = noted line place (note_at is_string token) ++ notes_in line (follows_is token) tokens

-- the patterns of a line are on names: `ping` alone has a parameter that is a text and no name
abbrev pub is_about_names : Lexemes → Bool
is_about_names tokens = not (begins_with (codes "ping") (later tokens))

-- the notes of a line
abbrev pub notes_on : NumberedLine → List Note
notes_on line = if is_about_names (tokens_of line.text) then notes_in line false (tokens_of line.text) else []

-- the bytes are UTF-8, and fewer than 2^32 - 1
abbrev pub is_read : List ℕ → Bool
is_read text = nat_lt (length text + 1) (2 ^ 32) && is_none (not_utf8_place text)

-- the notes of a text, in its order
abbrev pub notes_of : List ℕ → List Note
notes_of text = if is_read text then flat_map notes_on (lines_of text) else []
