-- Lines of plain tokens are read again, line by line and token by token.
use Rattle.std.proofs.Common.{◌≡◌, ◌∙◌, ℕ, zero, suc, ◌+◌, ◌-◌, ◌<◌, ◌==◌, nat_le, Bool, true, false, not, cond, ◌&&◌, List, [], ◌∷◌, ◌++◌, length, map, slice_index, ap, refl, sym, arith}
use Rattle.std.proofs.lemmas.Bool.{false≢true}
use Rattle.std.proofs.lemmas.Bool.Decides.{nat_tests}
use Rattle.std.proofs.lemmas.List.{append-nil}
use Rattle.std.proofs.lemmas.List.Folds.{list_all-append}
use Rattle.std.proofs.lemmas.Str.{IsUtf8-append, IsUtf8-nil, IsUtf8-from_ascii, IsUtf8-from_is_utf8}
use Rattle.std.proofs.lemmas.Str.Ascii.{IsAscii-nil, IsAscii-cons}
use Rattle.std.specs.List.{flat_map, list_all}
use Rattle.std.specs.Str.{IsUtf8, IsAscii}
use Rattle.sb_text.proofs.LineLaws.{written_lines}
use Rattle.sb_text.proofs.TokenLaws.{plain, written}
use Rattle.sb_text.specs.LineLaws.{is_line, ended}
use Rattle.sb_base.specs.OneLine.{is_no_lf}
use Rattle.sb_text.specs.Lines.{is_blank, is_skipped, has_cr, without_cr, lines_from, lines_of}
use Rattle.sb_text.specs.PlainLines.{is_plain_byte, is_plain, is_plain_line, line_text, numbered, PlainLinesAreUtf8, PlainLinesAreRead, PlainTokensAreRead, PlainWordsAreRead}
use Rattle.sb_text.specs.TokenLaws.{is_word_byte, is_quoted_byte, is_writable, written_token, written_line}
use Rattle.sb_text.specs.Tokens.{Lexeme, Word, Quoted, Bad}
use Rattle.sb_text.proofs.Conjunctions.{both, and_true}

all_more : {A : Type 0} (p q : A → Bool) → ((x : A) → p x ≡ true → q x ≡ true) → (xs : List A) → list_all p xs ≡ true → list_all q xs ≡ true
all_more p q f [] h = refl
all_more p q f (x ∷ xs) h = and_true _ _ (f x (both _ _ h).0) (all_more p q f xs (both _ _ h).1)

-- tokens with a space before each
abbrev spaced : List Lexeme → List ℕ
spaced tokens = flat_map (λ token. 32 ∷ written_token token) tokens

-- a line of tokens is its first token, and a space before each other
spaced_line : (token : Lexeme) (more : List Lexeme) → written_line (token ∷ more) ≡ written_token token ++ spaced more
spaced_line token [] = sym (append-nil (written_token token))
spaced_line token (next ∷ more) = ap (λ rest. written_token token ++ 32 ∷ rest) (spaced_line next more)

-- the tokens

word_byte : (b : ℕ) → is_plain_byte b ≡ true → is_word_byte b ≡ true
word_byte b h = grind (arith, nat_tests)

writable : (token : Lexeme) → is_plain token ≡ true → is_writable token ≡ true
writable (Word w) h = and_true _ _ (both _ _ h).0 (all_more is_plain_byte is_word_byte word_byte w (both _ _ h).1)
writable (Quoted q) h = (both _ _ h).0
writable Bad h = h

-- the bytes of a line

-- no control byte
abbrev is_text_byte : ℕ → Bool
is_text_byte b = nat_le 32 b

plain_text : (b : ℕ) → is_plain_byte b ≡ true → is_text_byte b ≡ true
plain_text b h = grind (arith, nat_tests)

quoted_text : (b : ℕ) → is_quoted_byte b ≡ true → is_text_byte b ≡ true
quoted_text b h = grind (arith, nat_tests)

quotes_text : (q : List ℕ) → list_all is_text_byte q ≡ true → list_all is_text_byte (34 ∷ (q ++ 34 ∷ [])) ≡ true
quotes_text q h = list_all-append is_text_byte q (34 ∷ []) ∙ and_true _ _ h refl

token_text : (token : Lexeme) → is_plain token ≡ true → list_all is_text_byte (written_token token) ≡ true
token_text (Word w) h = all_more is_plain_byte is_text_byte plain_text w (both _ _ h).1
token_text (Quoted q) h = quotes_text q (all_more is_quoted_byte is_text_byte quoted_text q (both _ _ h).0)
token_text Bad h = refl

tokens_text : (tokens : List Lexeme) → list_all is_plain tokens ≡ true → list_all is_text_byte (written_line tokens) ≡ true
tokens_text [] h = refl
tokens_text (token ∷ []) h = token_text token (both _ _ h).0
tokens_text (token ∷ next ∷ tokens) h =
    list_all-append is_text_byte (written_token token) (32 ∷ written_line (next ∷ tokens))
    ∙ and_true _ _ (token_text token (both _ _ h).0) (tokens_text (next ∷ tokens) (both _ _ h).1)

line_byte : (b : ℕ) → is_text_byte b ≡ true → is_no_lf b ≡ true
line_byte b h = grind (arith, nat_tests)

no_cr : (b : ℕ) → is_text_byte b ≡ true → not (b == 13) ≡ true
no_cr b h = grind (arith, nat_tests)

at_any : (p : ℕ → Bool) (bs : List ℕ) (i : ℕ) → p 0 ≡ true → list_all p bs ≡ true → p (slice_index bs i) ≡ true
at_any p [] i z h = z
at_any p (b ∷ bs) zero z h = (both _ _ h).0
at_any p (b ∷ bs) (suc i) z h = at_any p bs i z (both _ _ h).1

not_true : (t : Bool) → not t ≡ true → t ≡ false
not_true false h = refl
not_true true h = sym h

and_false : (a b : Bool) → b ≡ false → (a && b) ≡ false
and_false true b h = h
and_false false b h = refl

no_end : (line : List ℕ) → list_all is_text_byte line ≡ true → without_cr line ≡ line
no_end line h =
    let last = at_any (λ b. not (b == 13)) line (length line - 1) refl (all_more is_text_byte (λ b. not (b == 13)) no_cr line h) in
    let e : has_cr line ≡ false = and_false _ _ (not_true _ last) in
    rw (e) refl

-- the first byte

not_skipped_at : (b : ℕ) (bs : List ℕ) → is_plain_byte b ≡ true → is_skipped (b ∷ bs) ≡ false
not_skipped_at b bs h =
    let blank : is_blank b ≡ false = grind (arith, nat_tests) in
    let sign : (b == 35) ≡ false = grind (arith, nat_tests) in
    rw (blank) sign

not_skipped : (tokens : List Lexeme) → is_plain_line tokens ≡ true → is_skipped (written_line tokens) ≡ false
not_skipped [] h = absurd (false≢true h)
not_skipped (Word [] ∷ tokens) h = absurd (false≢true h)
not_skipped (Word (b ∷ w) ∷ tokens) h =
    ap is_skipped (spaced_line (Word (b ∷ w)) tokens) ∙ not_skipped_at b (w ++ spaced tokens) (both _ _ (both _ _ h).0).0
not_skipped (Quoted q ∷ tokens) h = absurd (false≢true h)
not_skipped (Bad ∷ tokens) h = absurd (false≢true h)

plain_tokens : (tokens : List Lexeme) → is_plain_line tokens ≡ true → list_all is_plain tokens ≡ true
plain_tokens [] h = refl
plain_tokens (Word w ∷ tokens) h = h
plain_tokens (Quoted q ∷ tokens) h = absurd (false≢true h)
plain_tokens (Bad ∷ tokens) h = absurd (false≢true h)

-- UTF-8

ascii : (w : List ℕ) → list_all is_plain_byte w ≡ true → IsAscii w
ascii [] h = IsAscii-nil
ascii (b ∷ w) h = IsAscii-cons b w (small b (both _ _ h).0) (ascii w (both _ _ h).1)
  where
    small : (b : ℕ) → is_plain_byte b ≡ true → b < 128
    small b h = grind (arith, nat_tests)

byte_utf8 : (b : ℕ) → b < 128 → IsUtf8 (b ∷ [])
byte_utf8 b h = IsUtf8-from_ascii (b ∷ []) (IsAscii-cons b [] h IsAscii-nil)

token_utf8 : (token : Lexeme) → is_plain token ≡ true → IsUtf8 (written_token token)
token_utf8 (Word w) h = IsUtf8-from_ascii w (ascii w (both _ _ h).1)
token_utf8 (Quoted q) h =
    IsUtf8-append (34 ∷ []) (q ++ 34 ∷ []) (byte_utf8 34 (omega arith)) (IsUtf8-append q (34 ∷ []) (IsUtf8-from_is_utf8 q (both _ _ h).1) (byte_utf8 34 (omega arith)))
token_utf8 Bad h = IsUtf8-nil

tokens_utf8 : (tokens : List Lexeme) → list_all is_plain tokens ≡ true → IsUtf8 (written_line tokens)
tokens_utf8 [] h = IsUtf8-nil
tokens_utf8 (token ∷ []) h = token_utf8 token (both _ _ h).0
tokens_utf8 (token ∷ next ∷ tokens) h =
    IsUtf8-append (written_token token) (32 ∷ written_line (next ∷ tokens)) (token_utf8 token (both _ _ h).0)
    (IsUtf8-append (32 ∷ []) (written_line (next ∷ tokens)) (byte_utf8 32 (omega arith)) (tokens_utf8 (next ∷ tokens) (both _ _ h).1))

-- lines of plain tokens are UTF-8
pub lines_utf8 : PlainLinesAreUtf8
lines_utf8 [] h = IsUtf8-nil
lines_utf8 (tokens ∷ lines) h =
    IsUtf8-append (line_text tokens) (flat_map line_text lines)
    (IsUtf8-append (written_line tokens) (10 ∷ []) (tokens_utf8 tokens (plain_tokens tokens (both _ _ h).0)) (byte_utf8 10 (omega arith)))
    (lines_utf8 lines (both _ _ h).1)

-- the lines, numbered

flat_as_map : (lines : List (List Lexeme)) → flat_map line_text lines ≡ flat_map ended (map written_line lines)
flat_as_map [] = refl
flat_as_map (tokens ∷ lines) = ap (λ rest. line_text tokens ++ rest) (flat_as_map lines)

are_lines : (lines : List (List Lexeme)) → list_all is_plain_line lines ≡ true → list_all is_line (map written_line lines) ≡ true
are_lines [] h = refl
are_lines (tokens ∷ lines) h =
    and_true _ _ (all_more is_text_byte is_no_lf line_byte (written_line tokens) (tokens_text tokens (plain_tokens tokens (both _ _ h).0))) (are_lines lines (both _ _ h).1)

numbered_lines : (n : ℕ) (lines : List (List Lexeme)) → list_all is_plain_line lines ≡ true → lines_from n (map written_line lines) ≡ numbered n lines
numbered_lines n [] h = refl
numbered_lines n (tokens ∷ lines) h =
    let plain = (both _ _ h).0 in
    let whole : without_cr (written_line tokens) ≡ written_line tokens = no_end (written_line tokens) (tokens_text tokens (plain_tokens tokens plain)) in
    kept (without_cr (written_line tokens)) whole (ap is_skipped whole ∙ not_skipped tokens plain) (numbered_lines (n + 1) lines (both _ _ h).1)
  where
    kept : (line : List ℕ) → line ≡ written_line tokens → is_skipped line ≡ false → lines_from (n + 1) (map written_line lines) ≡ numbered (n + 1) lines
        → cond (is_skipped line) (lines_from (n + 1) (map written_line lines)) (record { number = n; text = line } ∷ lines_from (n + 1) (map written_line lines))
        ≡ record { number = n; text = written_line tokens } ∷ numbered (n + 1) lines
    kept line e s f = rw (s) ((λ i. record { number = n; text = e i } ∷ f i))

-- the text of plain lines has these lines
pub lines_back : PlainLinesAreRead
lines_back lines h =
    ap lines_of (flat_as_map lines) ∙ ap (lines_from 1) (written_lines (map written_line lines) (are_lines lines h)) ∙ numbered_lines 1 lines h

-- a plain line has these tokens
pub tokens_back : PlainTokensAreRead
tokens_back tokens h = written tokens (all_more is_plain is_writable writable tokens (plain_tokens tokens h))

-- the words of a line

no_quote : (b : ℕ) → is_plain_byte b ≡ true → not (b == 34) ≡ true
no_quote b h = grind (arith, nat_tests)

unquoted : (words : List (List ℕ)) → list_all is_plain (map Word words) ≡ true → list_all (λ b. not (b == 34)) (written_line (map Word words)) ≡ true
unquoted [] h = refl
unquoted (w ∷ []) h = all_more is_plain_byte (λ b. not (b == 34)) no_quote w (both _ _ (both _ _ h).0).1
unquoted (w ∷ next ∷ words) h =
    list_all-append (λ b. not (b == 34)) w (32 ∷ written_line (map Word (next ∷ words)))
    ∙ and_true _ _ (all_more is_plain_byte (λ b. not (b == 34)) no_quote w (both _ _ (both _ _ h).0).1) (unquoted (next ∷ words) (both _ _ h).1)

-- a line of plain words has these words
pub words_back : PlainWordsAreRead
words_back words h =
    sym (plain (written_line (map Word words)) (unquoted words (plain_tokens (map Word words) h))) ∙ tokens_back (map Word words) h
