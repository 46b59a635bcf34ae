-- Lines of plain tokens, as programs write them, and what is true of their text.
use Rattle.std.specs.Prelude.{◌≡◌, ℕ, ◌+◌, Bool, true, false, ◌&&◌, nat_le, List, [], ◌∷◌, map}
use Rattle.std.specs.List.{flat_map, list_all}
use Rattle.std.specs.Str.{IsUtf8, is_utf8}
use Rattle.sb_text.specs.LineLaws.{ended}
use Rattle.sb_text.specs.Lines.{NumberedLine, lines_of}
use Rattle.sb_text.specs.TokenLaws.{is_quoted_byte, is_some_word, placed, written_line}
use Rattle.sb_text.specs.Tokens.{Lexeme, Word, Quoted, Bad, tokens_of, words_of}

-- printable ASCII after `#`
abbrev pub is_plain_byte : ℕ → Bool
is_plain_byte b = nat_le 36 b && nat_le b 126

-- a word of such bytes, or a string between quotes
abbrev pub is_plain : Lexeme → Bool
is_plain (Word w) = is_some_word w && list_all is_plain_byte w
is_plain (Quoted q) = list_all is_quoted_byte q && is_utf8 q
is_plain Bad = false

-- a line of plain tokens, the first of which is a word
abbrev pub is_plain_line : List Lexeme → Bool
is_plain_line (Word w ∷ tokens) = list_all is_plain (Word w ∷ tokens)
is_plain_line _ = false

-- a line: its tokens with one space between each two, and an LF
abbrev pub line_text : List Lexeme → List ℕ
line_text tokens = ended (written_line tokens)

-- a line of words, with one space between each two, and the same with an LF
abbrev pub words_line : List (List ℕ) → List ℕ
words_line words = written_line (map Word words)

abbrev pub words_text : List (List ℕ) → List ℕ
words_text words = line_text (map Word words)

-- the lines of these tokens, the first of which has number n
abbrev pub numbered : ℕ → List (List Lexeme) → List NumberedLine
numbered n [] = []
numbered n (tokens ∷ lines) = record { number = n; text = written_line tokens } ∷ numbered (n + 1) lines

-- lines of plain tokens are UTF-8
abbrev pub PlainLinesAreUtf8 : Type 0
PlainLinesAreUtf8 = (lines : List (List Lexeme)) → list_all is_plain_line lines ≡ true → IsUtf8 (flat_map line_text lines)

-- their text has these lines, none of which is blank or a comment
abbrev pub PlainLinesAreRead : Type 0
PlainLinesAreRead = (lines : List (List Lexeme)) → list_all is_plain_line lines ≡ true → lines_of (flat_map line_text lines) ≡ numbered 1 lines

-- a line of plain tokens has these tokens
abbrev pub PlainTokensAreRead : Type 0
PlainTokensAreRead = (tokens : List Lexeme) → is_plain_line tokens ≡ true → tokens_of (written_line tokens) ≡ placed tokens

-- and one of plain words has these words
abbrev pub PlainWordsAreRead : Type 0
PlainWordsAreRead = (words : List (List ℕ)) → is_plain_line (map Word words) ≡ true → words_of (written_line (map Word words)) ≡ placed (map Word words)
