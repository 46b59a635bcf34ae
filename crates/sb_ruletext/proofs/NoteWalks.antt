-- Notes that were read, and those that follow.
use Rattle.std.specs.Prelude.{Option}
use Rattle.std.proofs.Common.{◌≡◌, ◌∙◌, ℕ, suc, ◌<◌, Bool, List, [], ◌∷◌, ◌++◌, length, ap, sym, subst, append_assoc, arith}
use Rattle.std.proofs.lemmas.List.{append-nil}
use Rattle.std.specs.List.{flat_map}
use Rattle.sb_ruletext.specs.Notes.{follows_is, note_at, noted, notes_in, notes_on}
use Rattle.sb_ruletext.specs.declared.note_kinds.NoteKind.{NoteKind}
use Rattle.sb_ruletext.specs.declared.notes.Note.{Note}
use Rattle.sb_text.specs.Lines.{NumberedLine}
use Rattle.sb_text.specs.Tokens.{Lexeme, Lexemes, Next, End, lexemes, place_due}

-- a token is passed
pub token_passed : (line : NumberedLine) (is_string next : Bool) (before now whole : List Note) (token : Lexeme) (tokens rest : Lexemes) (kind : Option NoteKind)
    → before ++ notes_in line is_string tokens ≡ whole → tokens ≡ Next (place_due tokens) token rest → kind ≡ note_at is_string token
    → now ≡ before ++ noted line (place_due tokens) kind → next ≡ follows_is token → now ++ notes_in line next rest ≡ whole
token_passed line is_string next before now whole token tokens rest kind i t k n f =
    rw (n) rw (k) rw (f) (append_assoc before (noted line (place_due tokens) (note_at is_string token)) (notes_in line (follows_is token) rest)
    ∙ (sym (ap (λ (l : Lexemes). before ++ notes_in line is_string l) t) ∙ i))

-- no token is left
pub tokens_ended : (line : NumberedLine) (is_string : Bool) (before whole : List Note) (tokens : Lexemes)
    → before ++ notes_in line is_string tokens ≡ whole → tokens ≡ End (place_due tokens) → before ≡ whole
tokens_ended line is_string before whole tokens i t =
    sym (append-nil before) ∙ (sym (ap (λ (l : Lexemes). before ++ notes_in line is_string l) t) ∙ i)

-- one token fewer is left
pub fewer : (tokens rest : Lexemes) (token : Lexeme) → tokens ≡ Next (place_due tokens) token rest → length (lexemes rest) < length (lexemes tokens)
fewer tokens rest token t = subst (λ (l : Lexemes). length (lexemes rest) < length (lexemes l)) (sym t) (one_more (length (lexemes rest)))
  where
    one_more : (n : ℕ) → n < suc n
    one_more n = omega arith

-- a line is passed
pub line_passed : (before now whole : List Note) (line : NumberedLine) (lines rest : List NumberedLine)
    → before ++ flat_map notes_on lines ≡ whole → lines ≡ line ∷ rest → now ≡ before ++ notes_on line → now ++ flat_map notes_on rest ≡ whole
line_passed before now whole line lines rest i t n =
    rw (n) (append_assoc before (notes_on line) (flat_map notes_on rest) ∙ (sym (ap (λ (l : List NumberedLine). before ++ flat_map notes_on l) t) ∙ i))

-- no line is left
pub lines_ended : (before whole : List Note) (lines : List NumberedLine) → before ++ flat_map notes_on lines ≡ whole → lines ≡ [] → before ≡ whole
lines_ended before whole lines i t = sym (append-nil before) ∙ (sym (ap (λ (l : List NumberedLine). before ++ flat_map notes_on l) t) ∙ i)
