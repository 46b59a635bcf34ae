-- Moves are read back from what is written of them.
use Rattle.std.proofs.Common.{◌≡◌, ◌∙◌, ℕ, suc, ◌+◌, ◌^◌, ◌≤◌, ◌<◌, nat_lt, nat_le, Bool, true, false, not, cond, List, [], ◌∷◌, ◌++◌, None, Some, Option, Ok, Result, length, map, ap, refl, sym, arith}
use Rattle.std.specs.Fmt.{decimal}
use Rattle.std.specs.List.{flat_map, list_all}
use Rattle.std.specs.Prelude.{codes, ◌==◌}
use Rattle.std.specs.Str.{IsAscii, is_utf8}
use Rattle.std.proofs.lemmas.Bool.{and_from, and_parts, false≢true, or_from}
use Rattle.std.proofs.lemmas.Bool.Decides.{nat_tests}
use Rattle.std.proofs.lemmas.List.{append_assoc, append-nil, length_push}
use Rattle.std.proofs.lemmas.Str.{IsUtf8-from_ascii, is_utf8-from_IsUtf8}
use Rattle.std.proofs.lemmas.Str.Ascii.{IsAscii-cons, IsAscii-nil}
use Rattle.sb_dup.specs.Lines.{MoveWords, WordAt, access_at, has_quote, is_between, is_there, line_of, move_by, number_at, operand_at, operands, with_move}
use Rattle.sb_dup.specs.MoveLaws.{WrittenMovesAreRead}
use Rattle.sb_dup.specs.MovePrinting.{is_of_values, move_words, version_words, written}
use Rattle.sb_dup.specs.MoveTexts.{grammar}
use Rattle.sb_dup.specs.declared.faults.MoveKind.{MoveKind}
use Rattle.sb_dup.specs.declared.faults.MoveKind.TheVariants.{TooMany, UnknownWord}
use Rattle.sb_dup.specs.declared.moves.Move.{Move}
use Rattle.sb_text.specs.Lines.{NumberedLine, lines_of}
use Rattle.sb_text.specs.NumberLaws.{DecimalsAreRead}
use Rattle.sb_text.specs.Numbers.{is_decimal_digit, number_of}
use Rattle.sb_text.specs.PlainLines as plain
use Rattle.sb_text.specs.PlainLines.{PlainLinesAreRead, PlainWordsAreRead, is_plain_byte, words_line, words_text}
use Rattle.sb_text.specs.Readings.{on_line, read_by, read_lines}
use Rattle.sb_text.specs.Columns.{fails_at}
use Rattle.sb_text.specs.Steps.{◌>>=◌, Read, end_at, unless_fails, version_at}
use Rattle.sb_text.specs.TokenLaws.{is_some_word, placed, written_line}
use Rattle.sb_text.specs.Tokens.{Lexeme, Lexemes, Word, by_tokens, place_due}
use Rattle.sb_text.specs.declared.refusals.TokenFault.{TokenFault}
use Rattle.sb_text.specs.declared.refusals.WordFault.TheVariants.{Broken, Extra, NoVersion, Quoted}

-- the laws of texts that the proof uses
pub record Laws : Type 0 where
  pub lines : PlainLinesAreRead
  pub words : PlainWordsAreRead
  pub numbers : DecimalsAreRead

-- ---- decimal digits

was_some : (t : Bool) (x : Option ℕ) (n : ℕ) → cond t x None ≡ Some n → t ≡ true
was_some true x n e = refl
was_some false x n e = cc

some_word : (w : List ℕ) → nat_le 1 (length w) ≡ true → is_some_word w ≡ true
some_word [] h = absurd (false≢true h)
some_word (b ∷ w) h = refl

digit_plain : (b : ℕ) → is_decimal_digit b ≡ true → is_plain_byte b ≡ true
digit_plain b h = grind (arith, nat_tests)

digit_small : (b : ℕ) → is_decimal_digit b ≡ true → b < 128
digit_small b h = grind (arith, nat_tests)

digit_no_quote : (b : ℕ) → is_decimal_digit b ≡ true → (b == 34) ≡ false
digit_no_quote b h = grind (arith, nat_tests)

all_plain : (w : List ℕ) → list_all is_decimal_digit w ≡ true → list_all is_plain_byte w ≡ true
all_plain [] h = refl
all_plain (b ∷ w) h =
    let parts = and_parts (is_decimal_digit b) (list_all is_decimal_digit w) h in
    and_from (is_plain_byte b) (list_all is_plain_byte w) (digit_plain b parts.0) (all_plain w parts.1)

no_quote : (w : List ℕ) → list_all is_decimal_digit w ≡ true → has_quote w ≡ false
no_quote [] h = refl
no_quote (b ∷ w) h =
    let parts = and_parts (is_decimal_digit b) (list_all is_decimal_digit w) h in
    or_from (b == 34) (has_quote w) (digit_no_quote b parts.0) (no_quote w parts.1)

ascii : (w : List ℕ) → list_all is_decimal_digit w ≡ true → IsAscii w
ascii [] h = IsAscii-nil
ascii (b ∷ w) h =
    let parts = and_parts (is_decimal_digit b) (list_all is_decimal_digit w) h in
    IsAscii-cons b w (digit_small b parts.0) (ascii w parts.1)

digits : DecimalsAreRead → (n : ℕ) → n < 2 ^ 64 → (nat_le 1 (length (decimal n)) ≡ true) × (list_all is_decimal_digit (decimal n) ≡ true)
digits law n h =
    let most = and_parts _ _ (was_some _ _ n (law n h).0) in
    let some = and_parts _ _ most.0 in
    (some.0, most.1)

-- a word of digits, as all words of moves but the first
record IsDigits (w : List ℕ) : Type 0 where
  some : is_some_word w ≡ true
  plain : list_all is_plain_byte w ≡ true
  unquoted : has_quote w ≡ false
  text : is_utf8 w ≡ true

decimal_is : DecimalsAreRead → (n : ℕ) → n < 2 ^ 64 → IsDigits (decimal n)
decimal_is law n h =
    let d = digits law n h in
    record {
      some = some_word (decimal n) d.0;
      plain = all_plain (decimal n) d.1;
      unquoted = no_quote (decimal n) d.1;
      text = is_utf8-from_IsUtf8 (decimal n) (IsUtf8-from_ascii (decimal n) (ascii (decimal n) d.1));
    }

-- ---- the words of a line

-- the words of a line, from one on
abbrev words_at : List (List ℕ) → Lexemes
words_at words = placed (map Word words)

-- the first of these words
abbrev first_at : List ℕ → List (List ℕ) → WordAt
first_at w words = record { place = place_due (words_at (w ∷ words)); bytes = w }

-- a word, and those after it
abbrev At : Type 0
At = WordAt × Lexemes

abbrev unless_quoted : List ℕ → List (List ℕ) → Bool → Bool → Result At (TokenFault MoveKind)
unless_quoted w words quoted text =
    unless_fails (words_at (w ∷ words)) (UnknownWord Quoted) (not quoted) >>= λ unquoted. unless_fails (words_at (w ∷ words)) (UnknownWord Broken) text
    >>= λ text. Ok (first_at w words, words_at words)

word_back : (w : List ℕ) (words : List (List ℕ)) → IsDigits w → operand_at (words_at (w ∷ words)) ≡ Ok (first_at w words, words_at words)
word_back w words d = ap (λ t. unless_quoted w words t (is_utf8 w)) d.unquoted ∙ ap (unless_quoted w words false) d.text

abbrev last : WordAt → WordAt → WordAt → At → Result MoveWords (TokenFault MoveKind)
last a b c d = end_at (UnknownWord Extra) (UnknownWord Broken) d.1 >>= λ end. Ok (record { from = a; handle = b; to = c; access = d.0 })

-- the words of a move
abbrev found : List ℕ → List ℕ → List ℕ → List ℕ → MoveWords
found a b c d = record { from = first_at a (b ∷ c ∷ d ∷ []); handle = first_at b (c ∷ d ∷ []); to = first_at c (d ∷ []); access = first_at d [] }

operands_back : (a b c d : List ℕ) → IsDigits a → IsDigits b → IsDigits c → IsDigits d
    → operands (words_at (codes "move" ∷ a ∷ b ∷ c ∷ d ∷ [])) ≡ Ok (found a b c d)
operands_back a b c d p q r s =
    ap (λ (read : Result At (TokenFault MoveKind)). read >>= λ x. operand_at x.1 >>= λ y. operand_at y.1 >>= λ z. operand_at z.1 >>= λ w. last x.0 y.0 z.0 w)
    (word_back a (b ∷ c ∷ d ∷ []) p)
    ∙ ap (λ (read : Result At (TokenFault MoveKind)). read >>= λ y. operand_at y.1 >>= λ z. operand_at z.1 >>= λ w. last (first_at a (b ∷ c ∷ d ∷ [])) y.0 z.0 w)
    (word_back b (c ∷ d ∷ []) q)
    ∙ ap (λ (read : Result At (TokenFault MoveKind)). read >>= λ z. operand_at z.1 >>= λ w. last (first_at a (b ∷ c ∷ d ∷ [])) (first_at b (c ∷ d ∷ [])) z.0 w)
    (word_back c (d ∷ []) r)
    ∙ ap (λ (read : Result At (TokenFault MoveKind)). read >>= λ w. last (first_at a (b ∷ c ∷ d ∷ [])) (first_at b (c ∷ d ∷ [])) (first_at c (d ∷ [])) w)
    (word_back d [] s)

-- ---- their values

abbrev valued : ℕ → MoveWords → Option ℕ → Option ℕ → Option ℕ → Option ℕ → Result Move (TokenFault MoveKind)
valued targets words f h t a =
    is_there targets words.from.place f >>= λ giver. is_there targets words.to.place t >>= λ taker. number_at words.from.place f >>= λ from. number_at words.handle.place h
    >>= λ handle. number_at words.to.place t >>= λ to. access_at words.access.place a >>= λ access. Ok (record { from = from; handle = handle; to = to; access = access })

by_tests : (targets : ℕ) (words : MoveWords) (m : Move) (p q r : Bool) → nat_lt m.from targets ≡ p → nat_lt m.to targets ≡ q → nat_lt m.access (2 ^ 32) ≡ r
    → p ≡ true → q ≡ true → r ≡ true → valued targets words (Some m.from) (Some m.handle) (Some m.to) (Some m.access) ≡ Ok m
by_tests targets words m true true true e f g p q r = rw (e, f, g) refl
by_tests targets words m false q r e f g p _ _ = absurd (false≢true p)
by_tests targets words m true false r e f g p k _ = absurd (false≢true k)
by_tests targets words m true true false e f g p q k = absurd (false≢true k)

record IsSmall (m : Move) : Type 0 where
  from : m.from < 2 ^ 64
  handle : m.handle < 2 ^ 64
  to : m.to < 2 ^ 64
  access : m.access < 2 ^ 64
  narrow : nat_lt m.access (2 ^ 32) ≡ true

narrow_small : (n : ℕ) → nat_lt n (2 ^ 32) ≡ true → n < 2 ^ 64
narrow_small n h = grind (arith, nat_tests)

wide_small : (n : ℕ) → nat_lt n (2 ^ 64) ≡ true → n < 2 ^ 64
wide_small n h = grind (arith, nat_tests)

small : (m : Move) → is_of_values m ≡ true → IsSmall m
small m h =
    let all = and_parts _ _ h in
    let three = and_parts _ _ all.0 in
    let two = and_parts _ _ three.0 in
    record { from = narrow_small m.from two.0; handle = wide_small m.handle two.1; to = narrow_small m.to three.1; access = narrow_small m.access all.1; narrow = all.1 }

-- the words of this move
abbrev written_words : Move → MoveWords
written_words m = found (decimal m.from) (decimal m.handle) (decimal m.to) (decimal m.access)

move_back : DecimalsAreRead → (targets : ℕ) (m : Move) → is_between targets m ≡ true → IsSmall m → move_by targets (written_words m) ≡ Ok m
move_back law targets m b s =
    let there = and_parts (nat_lt m.from targets) (nat_lt m.to targets) b in
    let words = written_words m in
    ap (λ f. valued targets words f (number_of (decimal m.handle)) (number_of (decimal m.to)) (number_of (decimal m.access))) (law m.from s.from).1
    ∙ ap (λ h. valued targets words (Some m.from) h (number_of (decimal m.to)) (number_of (decimal m.access))) (law m.handle s.handle).1
    ∙ ap (λ t. valued targets words (Some m.from) (Some m.handle) t (number_of (decimal m.access))) (law m.to s.to).1
    ∙ ap (λ a. valued targets words (Some m.from) (Some m.handle) (Some m.to) a) (law m.access s.access).1
    ∙ by_tests targets words m (nat_lt m.from targets) (nat_lt m.to targets) (nat_lt m.access (2 ^ 32)) refl refl refl there.0 there.1 s.narrow

-- ---- the lines

with_back : (line : Lexemes) (moves : List Move) (m : Move) → nat_lt (length moves) 4096 ≡ true → with_move line moves m ≡ Ok (moves ++ m ∷ [])
with_back line moves m h = ap {B = Result (List Move) (TokenFault MoveKind)} (λ t. cond t (Ok (moves ++ m ∷ [])) (fails_at (place_due line) TooMany)) h

line_back : DecimalsAreRead → (targets : ℕ) (moves : List Move) (m : Move) → is_between targets m ≡ true → IsSmall m → nat_lt (length moves) 4096 ≡ true
    → line_of targets moves (words_at (move_words m)) ≡ Ok (moves ++ m ∷ [])
unfolding line_of
line_back law targets moves m b s few =
    let line = words_at (move_words m) in
    ap (λ (read : Result MoveWords (TokenFault MoveKind)). read >>= λ found. move_by targets found >>= λ m. with_move line moves m)
    (operands_back (decimal m.from) (decimal m.handle) (decimal m.to) (decimal m.access)
    (decimal_is law m.from s.from) (decimal_is law m.handle s.handle) (decimal_is law m.to s.to) (decimal_is law m.access s.access))
    ∙ ap (λ (read : Result Move (TokenFault MoveKind)). read >>= λ m. with_move line moves m) (move_back law targets m b s)
    ∙ with_back line moves m few

-- a line of plain words
abbrev is_plain_line : List (List ℕ) → Bool
is_plain_line words = plain.is_plain_line (map Word words)

-- words as tokens
abbrev tokens_of_lines : List (List (List ℕ)) → List (List Lexeme)
tokens_of_lines lines = map (map Word) lines

abbrev numbered : ℕ → List (List (List ℕ)) → List NumberedLine
numbered n lines = plain.numbered n (tokens_of_lines lines)

as_tokens : (lines : List (List (List ℕ))) → flat_map words_text lines ≡ flat_map plain.line_text (tokens_of_lines lines)
as_tokens [] = refl
as_tokens (words ∷ lines) = ap (λ rest. words_text words ++ rest) (as_tokens lines)

are_plain : (lines : List (List (List ℕ))) → list_all is_plain_line lines ≡ true → list_all plain.is_plain_line (tokens_of_lines lines) ≡ true
are_plain [] h = refl
are_plain (words ∷ lines) h =
    let parts = and_parts (is_plain_line words) (list_all is_plain_line lines) h in
    and_from (is_plain_line words) _ parts.0 (are_plain lines parts.1)

lines_back : PlainLinesAreRead → (lines : List (List (List ℕ))) → list_all is_plain_line lines ≡ true → lines_of (flat_map words_text lines) ≡ numbered 1 lines
lines_back law lines h = ap lines_of (as_tokens lines) ∙ law (tokens_of_lines lines) (are_plain lines h)

plain_word : (w : List ℕ) → IsDigits w → plain.is_plain (Word w) ≡ true
plain_word w d = and_from (is_some_word w) (list_all is_plain_byte w) d.some d.plain

line_plain : DecimalsAreRead → (m : Move) → IsSmall m → is_plain_line (move_words m) ≡ true
line_plain law m s =
    and_from _ _ (plain_word _ (decimal_is law m.from s.from)) (and_from _ _ (plain_word _ (decimal_is law m.handle s.handle))
    (and_from _ _ (plain_word _ (decimal_is law m.to s.to)) (and_from _ _ (plain_word _ (decimal_is law m.access s.access)) refl)))

lines_plain : DecimalsAreRead → (moves : List Move) → list_all is_of_values moves ≡ true → list_all is_plain_line (map move_words moves) ≡ true
lines_plain law [] h = refl
lines_plain law (m ∷ moves) h =
    let parts = and_parts (is_of_values m) (list_all is_of_values moves) h in
    and_from _ _ (line_plain law m (small m parts.0)) (lines_plain law moves parts.1)

-- ---- all of them

less : (n k : ℕ) → n + suc k ≤ 4096 → nat_lt n 4096 ≡ true
less n k h = grind (arith, nat_tests)

moves_back : Laws → (targets : ℕ) (done : List Move) (n : ℕ) (moves : List Move) → list_all (is_between targets) moves ≡ true → list_all is_of_values moves ≡ true
    → length done + length moves ≤ 4096 → read_lines (grammar targets) 1 done (numbered n (map move_words moves)) ≡ Ok (done ++ moves)
unfolding read_lines
moves_back laws targets done n [] there values few = ap Ok (sym (append-nil done))
moves_back laws targets done n (m ∷ moves) there values few =
    let between = and_parts (is_between targets m) (list_all (is_between targets) moves) there in
    let each = and_parts (is_of_values m) (list_all is_of_values moves) values in
    let s = small m each.0 in
    let long = length_push done m in
    ap (λ (found : Lexemes). on_line by_tokens (record { number = n; text = words_line (move_words m) }) (line_of targets done found)
    >>= λ more. read_lines (grammar targets) 1 more (numbered (n + 1) (map move_words moves))) (laws.words (move_words m) (line_plain laws.numbers m s))
    ∙ ap (λ (r : Result (List Move) (TokenFault MoveKind)). on_line by_tokens (record { number = n; text = words_line (move_words m) }) r
    >>= λ more. read_lines (grammar targets) 1 more (numbered (n + 1) (map move_words moves)))
    (line_back laws.numbers targets done m between.0 s (less (length done) (length moves) few))
    ∙ moves_back laws targets (done ++ m ∷ []) (n + 1) moves between.1 each.1 (omega (arith, few, long))
    ∙ ap Ok (append_assoc done (m ∷ []) moves)

pub written_read : Laws → WrittenMovesAreRead
written_read laws targets moves there values few =
    let below = numbered 2 (map move_words moves) in
    ap (read_by (grammar targets))
    (lines_back laws.lines (version_words ∷ map move_words moves) (and_from _ _ refl (lines_plain laws.numbers moves values)))
    ∙ ap (λ (found : Lexemes). on_line by_tokens (record { number = 1; text = words_line version_words }) (version_at (UnknownWord NoVersion) (codes "sandbox-moves") 1 found)
    >>= λ version. read_lines (grammar targets) version [] below) (laws.words version_words refl)
    ∙ moves_back laws targets [] 2 moves there values (omega (arith, few))
