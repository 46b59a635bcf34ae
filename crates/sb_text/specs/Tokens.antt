-- The tokens of a line, each with its place. The laws in TokenLaws say what they are without the scan, and may be read first: TokensAreCut (where
-- tokens begin), WrittenTokensAreRead and TokensAreFound (tokens and lines as they are written), BrokenTokensAreBad (what breaks the rules),
-- FirstTokenSkips (comments).
use Rattle.std.specs.Prelude.{ℕ, Bool, false, List, [], ◌∷◌, ◌++◌, ◌==◌, length, nat_lt, Option, None, Some, if◌then◌else◌}
use Rattle.std.specs.Char.Utf16.{utf16_lossy_chars}
use Rattle.std.specs.Str.{chars, encode_utf8_all}
use Rattle.sb_base.specs.Wide.{utf16_of}
use Rattle.sb_text.specs.Lines.{is_blank}
use Rattle.sb_text.specs.declared.columns.Layout.{Layout}
use Rattle.sb_text.specs.declared.columns.Layout.TheVariants.{Text, Bytes}
use Rattle.sb_text.specs.declared.tokens.Token.{Token}
use Rattle.sb_text.specs.declared.tokens.Token.TheVariants as token

-- a word, what is between two `"`, or bytes that break the rules for tokens
pub data Lexeme : Type 0 where
  Word : List ℕ → Lexeme
  Quoted : List ℕ → Lexeme
  Bad : Lexeme

-- The tokens that are left of a line. A place of a line is the number of bytes from there to the line's end: that of a token has all bytes from its
-- first on, and that of the end those after the last token
pub data Lexemes : Type 0 where
  Next : ℕ → Lexeme → Lexemes → Lexemes
  End : ℕ → Lexemes

-- the place of the token that is due, or that of the end
abbrev pub place_due : Lexemes → ℕ
place_due (Next place token tokens) = place
place_due (End place) = place

-- the tokens without their places
abbrev pub lexemes : Lexemes → List Lexeme
lexemes (Next place token tokens) = token ∷ lexemes tokens
lexemes (End place) = []

-- texts of UTF-8, with quoted tokens
abbrev pub by_tokens : Layout
by_tokens = Text

-- texts of bytes, with words alone
abbrev pub by_words : Layout
by_words = Bytes

-- whether a `"` is a quote there, and not a byte like any other
abbrev pub is_quote : Layout → ℕ → Bool
is_quote Text b = b == 34
is_quote Bytes b = false

-- where in a line the scan is: between tokens, with the place of the end of the last one; in a word or a quoted token of this place, with these bytes so
-- far; or after the second `"` of such a token
pub data Spot : Type 0 where
  Between : ℕ → Spot
  InWord : ℕ → List ℕ → Spot
  InQuote : ℕ → List ℕ → Spot
  AfterQuote : ℕ → List ℕ → Spot

-- nothing follows bytes that break the rules
abbrev pub broken : ℕ → Lexemes
broken place = Next place Bad (End 0)

-- the tokens of the rest of a line
abbrev pub scan : Layout → Spot → List ℕ → Lexemes
scan layout (Between end) [] = End end
scan layout (InWord place w) [] = Next place (Word w) (End 0)
scan layout (InQuote place w) [] = broken place
scan layout (AfterQuote place w) [] = Next place (Quoted w) (End 0)
scan layout (Between end) (b ∷ bs) =
    if is_blank b then scan layout (Between end) bs
    else (if is_quote layout b then scan layout (InQuote (length (b ∷ bs)) []) bs
    else scan layout (InWord (length (b ∷ bs)) (b ∷ [])) bs)
scan layout (InWord place w) (b ∷ bs) =
    if is_blank b then Next place (Word w) (scan layout (Between (length (b ∷ bs))) bs)
    else (if is_quote layout b then broken place
    else scan layout (InWord place (w ++ b ∷ [])) bs)
scan layout (InQuote place w) (b ∷ bs) =
    if b == 34 then scan layout (AfterQuote place w) bs
    else (if nat_lt b 32 then broken place
    else scan layout (InQuote place (w ++ b ∷ [])) bs)
scan layout (AfterQuote place w) (b ∷ bs) =
    if is_blank b then Next place (Quoted w) (scan layout (Between (length (b ∷ bs))) bs) else broken place

-- the tokens of these bytes, which follow a token or are a whole line
abbrev pub tokens_by : Layout → List ℕ → Lexemes
tokens_by layout line = scan layout (Between (length line)) line

-- the tokens of a line
abbrev pub tokens_of : List ℕ → Lexemes
tokens_of line = tokens_by by_tokens line

-- the words of a line, cut at blanks alone
abbrev pub words_of : List ℕ → Lexemes
words_of line = tokens_by by_words line

-- a token that the program found
abbrev pub lexeme_of : Token → Lexeme
lexeme_of (token.Word w) = Word w.now
lexeme_of (token.Quoted w) = Quoted w.now
lexeme_of token.Bad = Bad

-- the token at hand, which has this place, and those after it; if there is none, the end
abbrev pub at_hand : Option Token → ℕ → Lexemes → Lexemes
at_hand None place tokens = End place
at_hand (Some token) place tokens = Next place (lexeme_of token) tokens

-- the wide string that a quoted token means: the UTF-16 units of its characters, without escapes
abbrev pub string_of : List ℕ → List ℕ
string_of quoted = utf16_of (chars quoted)

-- the UTF-8 of the characters that units spell: what is written of a wide string between quotes
abbrev pub utf8_of : List ℕ → List ℕ
utf8_of units = encode_utf8_all (utf16_lossy_chars units)
