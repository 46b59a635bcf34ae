-- Lines of plain words, as lines of tokens.
use Rattle.std.proofs.Common.{◌≡◌, ◌∙◌, ℕ, Bool, true, List, [], ◌∷◌, ◌++◌, map, ap, refl}
use Rattle.std.proofs.lemmas.Bool.{and_from, and_parts}
use Rattle.std.specs.List.{flat_map, list_all}
use Rattle.sb_text.specs.Lines.{NumberedLine, lines_of}
use Rattle.sb_text.specs.PlainLines as plain
use Rattle.sb_text.specs.PlainLines.{PlainLinesAreRead, words_text}
use Rattle.sb_text.specs.Tokens.{Lexeme, Word}

-- a word of printable ASCII after `#`
abbrev pub is_plain : List ℕ → Bool
is_plain w = plain.is_plain (Word w)

-- a line of plain words
abbrev pub is_plain_line : List (List ℕ) → Bool
is_plain_line words = plain.is_plain_line (map Word words)

-- words as tokens
abbrev tokens_of_lines : List (List (List ℕ)) → List (List Lexeme)
tokens_of_lines lines = map (map Word) lines

-- the lines of these words, the first of which has number n
abbrev pub numbered : ℕ → List (List (List ℕ)) → List NumberedLine
numbered n lines = plain.numbered n (tokens_of_lines lines)

as_tokens : (lines : List (List (List ℕ))) → flat_map words_text lines ≡ flat_map plain.line_text (tokens_of_lines lines)
as_tokens [] = refl
as_tokens (words ∷ lines) = ap (λ rest. words_text words ++ rest) (as_tokens lines)

are_plain : (lines : List (List (List ℕ))) → list_all is_plain_line lines ≡ true → list_all plain.is_plain_line (tokens_of_lines lines) ≡ true
are_plain [] h = refl
are_plain (words ∷ lines) h = and_from _ _ (and_parts _ _ h).0 (are_plain lines (and_parts _ _ h).1)

-- the text of plain lines has these lines
pub lines_back : PlainLinesAreRead → (lines : List (List (List ℕ))) → list_all is_plain_line lines ≡ true → lines_of (flat_map words_text lines) ≡ numbered 1 lines
lines_back law lines h = ap lines_of (as_tokens lines) ∙ law (tokens_of_lines lines) (are_plain lines h)
