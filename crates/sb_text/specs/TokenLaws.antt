-- What is true of the tokens of each line.
use Rattle.std.specs.Prelude.{◌≡◌, ℕ, Bool, true, false, not, ◌&&◌, ◌<◌, nat_lt, ◌==◌, List, [], ◌∷◌, ◌++◌, length, slice_index, None, if◌then◌else◌}
use Rattle.std.specs.List.{list_all}
use Rattle.std.specs.Str.{is_utf8}
use Rattle.sb_text.specs.Lines.{NumberedLine, is_blank, is_skipped, lines_of}
use Rattle.sb_text.specs.Tokens.{Lexeme, Lexemes, Word, Quoted, Bad, Next, End, broken, lexemes, tokens_by, tokens_of, words_of}
use Rattle.sb_text.specs.Utf8.{not_utf8_place}
use Rattle.sb_text.specs.declared.columns.Layout.{Layout}

-- whether there is a byte
abbrev pub is_some_word : List ℕ → Bool
is_some_word [] = false
is_some_word (b ∷ bs) = true

-- neither a blank nor `"`
abbrev pub is_word_byte : ℕ → Bool
is_word_byte b = not (is_blank b) && not (b == 34)

-- neither `"` nor a character below 32
abbrev pub is_quoted_byte : ℕ → Bool
is_quoted_byte b = not (b == 34) && not (nat_lt b 32)

-- a token that can be written
abbrev pub is_writable : Lexeme → Bool
is_writable (Word w) = is_some_word w && list_all is_word_byte w
is_writable (Quoted q) = list_all is_quoted_byte q
is_writable Bad = false

-- how a token is written
abbrev pub written_token : Lexeme → List ℕ
written_token (Word w) = w
written_token (Quoted q) = 34 ∷ (q ++ 34 ∷ [])
written_token Bad = []

-- a line of tokens, with one space between each two
abbrev pub written_line : List Lexeme → List ℕ
written_line [] = []
written_line (token ∷ []) = written_token token
written_line (token ∷ next ∷ tokens) = written_token token ++ 32 ∷ written_line (next ∷ tokens)

-- the tokens of a line that is written so
abbrev pub placed : List Lexeme → Lexemes
placed [] = End 0
placed (token ∷ tokens) = Next (length (written_line (token ∷ tokens))) token (placed tokens)

-- a token can be written, or is the last and breaks the rules
abbrev pub are_found : Lexemes → Bool
are_found (Next place Bad (End end)) = true
are_found (Next place token tokens) = is_writable token && are_found tokens
are_found (End place) = true

-- a blank, or nothing
abbrev pub is_parted : List ℕ → Bool
is_parted [] = true
is_parted (b ∷ bs) = is_blank b

-- these bytes are blanks, what is written of a token, and the bytes after it; the token has the place at which it begins
pub record CutAt (bytes : List ℕ) (place : ℕ) (token : List ℕ) : Type 0 where
  pub blanks : List ℕ
  pub after : List ℕ
  pub cut : bytes ≡ blanks ++ (token ++ after)
  pub blank : list_all is_blank blanks ≡ true
  pub left : length (token ++ after) ≡ place

-- these bytes are cut into the tokens: blanks and a token, after which there is a blank or nothing, and so on; at the end blanks alone. After bytes that break
-- the rules nothing is read
abbrev pub IsCut : List ℕ → Lexemes → Type 0
IsCut bytes (End place) = (list_all is_blank bytes ≡ true) × (length bytes ≡ place)
IsCut bytes (Next place Bad tokens) = CutAt bytes place [] × (tokens ≡ End 0)
IsCut bytes (Next place (Word w) tokens) = (cut : CutAt bytes place w) × (is_parted cut.after ≡ true) × IsCut cut.after tokens
IsCut bytes (Next place (Quoted q) tokens) = (cut : CutAt bytes place (written_token (Quoted q))) × (is_parted cut.after ≡ true) × IsCut cut.after tokens

-- what a quoted token holds can be between quotes
abbrev pub is_quotable : Lexeme → Bool
is_quotable (Quoted q) = list_all is_quoted_byte q
is_quotable (Word w) = true
is_quotable Bad = true

-- what a quoted token holds is UTF-8, and can be between quotes
abbrev pub is_quoted_text : Lexeme → Bool
is_quoted_text (Quoted q) = is_utf8 q && list_all is_quoted_byte q
is_quoted_text (Word w) = true
is_quoted_text Bad = true

-- so does each quoted token of a line
abbrev pub has_quoted_text : NumberedLine → Bool
has_quoted_text line = list_all is_quoted_text (lexemes (tokens_of line.text))

-- the first byte that is no blank, and 0 if there is none
abbrev pub first_byte : List ℕ → ℕ
first_byte [] = 0
first_byte (b ∷ bs) = if is_blank b then first_byte bs else b

-- a token and a blank: the token is found, and what follows it is read for itself
abbrev pub TokenIsReadBeforeBlank : Type 0
TokenIsReadBeforeBlank = (token : Lexeme) (b : ℕ) (rest : List ℕ) → is_writable token ≡ true → is_blank b ≡ true
    → tokens_of (written_token token ++ b ∷ rest) ≡ Next (length (written_token token ++ b ∷ rest)) token (tokens_of (b ∷ rest))

-- a word that holds `"`, and a quoted token that is not closed, that holds a character below 32, or that no blank follows
abbrev pub BrokenTokensAreBad : Type 0
BrokenTokensAreBad =
    ((w rest : List ℕ) → is_writable (Word w) ≡ true → lexemes (tokens_of (w ++ 34 ∷ rest)) ≡ Bad ∷ [])
    × ((q : List ℕ) → is_writable (Quoted q) ≡ true → lexemes (tokens_of (34 ∷ q)) ≡ Bad ∷ [])
    × ((q rest : List ℕ) (c : ℕ) → is_writable (Quoted q) ≡ true → c < 32 → lexemes (tokens_of (34 ∷ (q ++ c ∷ rest))) ≡ Bad ∷ [])
    × ((q rest : List ℕ) (c : ℕ) → is_writable (Quoted q) ≡ true → is_blank c ≡ false → lexemes (tokens_of (34 ∷ (q ++ 34 ∷ c ∷ rest))) ≡ Bad ∷ [])

-- tokens that are written on a line are read back, each where it was written
abbrev pub WrittenTokensAreRead : Type 0
WrittenTokensAreRead = (tokens : List Lexeme) → list_all is_writable tokens ≡ true → tokens_of (written_line tokens) ≡ placed tokens

-- each token of a line can be written, except that the last may be bytes that break the rules
abbrev pub TokensAreFound : Type 0
TokensAreFound = (line : List ℕ) → are_found (tokens_of line) ≡ true

-- each line is cut into its tokens, and into its words
abbrev pub TokensAreCut : Type 0
TokensAreCut = (layout : Layout) (line : List ℕ) → IsCut line (tokens_by layout line)

-- a blank at either end of a line changes no token
abbrev pub BlanksAreNothing : Type 0
BlanksAreNothing = (b : ℕ) (line : List ℕ) → is_blank b ≡ true
    → (lexemes (tokens_of (b ∷ line)) ≡ lexemes (tokens_of line)) × (lexemes (tokens_of (line ++ b ∷ [])) ≡ lexemes (tokens_of line))

-- a line without `"` has its words as tokens
abbrev pub PlainLinesHaveWords : Type 0
PlainLinesHaveWords = (line : List ℕ) → list_all (λ b. not (b == 34)) line ≡ true → tokens_of line ≡ words_of line

-- a line that is not skipped has a token
abbrev pub SayingLinesHaveTokens : Type 0
SayingLinesHaveTokens = (line : List ℕ) → is_skipped line ≡ false → 0 < length (lexemes (tokens_of line))

-- a line without tokens is skipped, and one with a token, also one that breaks the rules, exactly if its first byte that is no
-- blank is `#`. So one whose first token is quoted is not, and one whose first token is a word exactly if that begins with `#`
abbrev pub FirstTokenSkips : Type 0
FirstTokenSkips =
    ((line : List ℕ) → lexemes (tokens_of line) ≡ [] → is_skipped line ≡ true)
    × ((line : List ℕ) (token : Lexeme) (tokens : List Lexeme) → lexemes (tokens_of line) ≡ token ∷ tokens → is_skipped line ≡ (first_byte line == 35))
    × ((line q : List ℕ) (tokens : List Lexeme) → lexemes (tokens_of line) ≡ Quoted q ∷ tokens → is_skipped line ≡ false)
    × ((line w : List ℕ) (tokens : List Lexeme) → lexemes (tokens_of line) ≡ Word w ∷ tokens → is_skipped line ≡ (slice_index w 0 == 35))

-- in a text that is UTF-8 each quoted token holds UTF-8, which can be between quotes
abbrev pub QuotedTokensAreText : Type 0
QuotedTokensAreText = (text : List ℕ) → not_utf8_place text ≡ None → list_all has_quoted_text (lines_of text) ≡ true
