-- A scan at a place of the line.
use Rattle.std.proofs.Common.{◌≡◌, ℕ, ◌+◌, ◌<◌, ◌==◌, ◌||◌, ◌&&◌, not, nat_lt, ◌≤◌, false, true, refl, sym, ap, ◌∙◌, arith, List, [], ◌∷◌, ◌++◌, length, take, drop, get_or, if◌then◌else◌}
use Rattle.std.proofs.lemmas.Bool.{false≢true}
use Rattle.std.proofs.lemmas.Bool.Decides.{nat_tests}
use Rattle.std.proofs.lemmas.List.{at_drop_more, drop_all, take_more}
use Rattle.sb_text.proofs.Conjunctions.{both, and_true}
use Rattle.sb_text.specs.Lines.{is_blank}
use Rattle.sb_text.specs.Tokens.{Lexemes, Word, Next, Between, InWord, InQuote, AfterQuote, broken, by_tokens, scan, tokens_of}

-- the tokens of a text that begins with a blank
tokens_at : (s : List ℕ) (n : ℕ) → n < length s → is_blank (get_or s n 0) ≡ true
    → tokens_of (drop n s) ≡ scan by_tokens (Between (length (get_or s n 0 ∷ drop (n + 1) s))) (drop (n + 1) s)
tokens_at s n h k = at_drop_more tokens_of s n 0 h ∙ rw (k) refl

pub scan_word_at : (place : ℕ) (w s : List ℕ) (n : ℕ) → n < length s → scan by_tokens (InWord place w) (drop n s)
    ≡ (if is_blank (get_or s n 0) then Next place (Word w) (scan by_tokens (Between (length (get_or s n 0 ∷ drop (n + 1) s))) (drop (n + 1) s))
    else (if get_or s n 0 == 34 then broken place else scan by_tokens (InWord place (w ++ get_or s n 0 ∷ [])) (drop (n + 1) s)))
scan_word_at place w s n h = at_drop_more (scan by_tokens (InWord place w)) s n 0 h

pub scan_quote_at : (place : ℕ) (w s : List ℕ) (n : ℕ) → n < length s → scan by_tokens (InQuote place w) (drop n s)
    ≡ (if get_or s n 0 == 34 then scan by_tokens (AfterQuote place w) (drop (n + 1) s)
    else (if nat_lt (get_or s n 0) 32 then broken place else scan by_tokens (InQuote place (w ++ get_or s n 0 ∷ [])) (drop (n + 1) s)))
scan_quote_at place w s n h = at_drop_more (scan by_tokens (InQuote place w)) s n 0 h

-- a blank between tokens is passed
pub scan_past_blank : (end : ℕ) (s : List ℕ) → 0 < length s → is_blank (get_or s 0 0) ≡ true
    → scan by_tokens (Between end) (drop 1 s) ≡ scan by_tokens (Between end) s
scan_past_blank end [] h k = absurd (omega arith)
scan_past_blank end (b ∷ bs) h k = rw (k) refl

other : (b k : ℕ) → (b ≡ k → ⊥) → (b == k) ≡ false
other b k h = grind (arith, nat_tests)

same : (b k : ℕ) → b ≡ k → (b == k) ≡ true
same b k h = grind (arith, nat_tests)

-- what a text begins with that begins with no blank
pub starts_quote : (end : ℕ) (s : List ℕ) → 0 < length s → get_or s 0 0 ≡ 34
    → scan by_tokens (Between end) s ≡ scan by_tokens (InQuote (length s) []) (drop 1 s)
starts_quote end [] h k = absurd (omega arith)
starts_quote end (b ∷ bs) h k = rw k refl

pub starts_word : (end : ℕ) (s : List ℕ) → is_blank (get_or s 0 0) ≡ false → (get_or s 0 0 ≡ 34 → ⊥) → 0 < length s
    → scan by_tokens (Between end) s ≡ scan by_tokens (InWord (length s) []) s
starts_word end [] k m h = absurd (omega arith)
starts_word end (b ∷ bs) k m h = rw (k, other b 34 m) refl

-- a word goes on, breaks the rules, or ends at a blank
module _ (place : ℕ) (s : List ℕ) (n : ℕ) (z : Lexemes) (begun : scan by_tokens (InWord place (take n s)) (drop n s) ≡ z) where
  pub word_more : n < length s → is_blank (get_or s n 0) ≡ false → (get_or s n 0 ≡ 34 → ⊥) → scan by_tokens (InWord place (take (n + 1) s)) (drop (n + 1) s) ≡ z
  word_more h k m = rw (take_more s n 0 h) (sym (rw (k, other _ 34 m) at (scan_word_at place (take n s) s n h)) ∙ begun)

  pub word_bad : n < length s → is_blank (get_or s n 0) ≡ false → get_or s n 0 ≡ 34 → z ≡ broken place
  word_bad h k m = sym begun ∙ rw (k, same _ 34 m) at (scan_word_at place (take n s) s n h)

  pub word_ends : n < length s → is_blank (get_or s n 0) ≡ true → z ≡ Next place (Word (take n s)) (tokens_of (drop n s))
  word_ends h k = sym begun ∙ rw k at (scan_word_at place (take n s) s n h) ∙ sym (ap (Next place (Word (take n s))) (tokens_at s n h k))

  pub word_last : length s ≤ n → z ≡ Next place (Word (take n s)) (tokens_of (drop n s))
  word_last h = sym begun ∙ rw (drop_all n s h) refl

-- what one test of a byte tells, and another of the byte at a place
in_word_not_blank : (b : ℕ) → not (is_blank b || b == 34) ≡ true → is_blank b ≡ false
in_word_not_blank b h = grind (arith, nat_tests)

in_word_no_quote : (b : ℕ) → not (is_blank b || b == 34) ≡ true → b ≡ 34 → ⊥
in_word_no_quote b h e = false≢true (rw e at h)

not_in_word_blank : (b : ℕ) → not (is_blank b || b == 34) ≡ false → (b ≡ 34 → ⊥) → is_blank b ≡ true
not_in_word_blank b h m = grind (arith, nat_tests)

pub stops_low : (b : ℕ) → not (is_blank b || b == 34) ≡ false → b < 128
stops_low b h = grind (arith, nat_tests)

is_less : (n m : ℕ) → n < m → nat_lt n m ≡ true
is_less n m h = grind (arith, nat_tests)

less : (n m : ℕ) → nat_lt n m ≡ true → n < m
less n m h = grind (arith, nat_tests)

equal : (b k : ℕ) → (b == k) ≡ true → b ≡ k
equal b k h = grind (arith, nat_tests)

pub no_quote_at : (s : List ℕ) (n : ℕ) → n < length s → (nat_lt n (length s) && get_or s n 0 == 34) ≡ false → get_or s n 0 ≡ 34 → ⊥
no_quote_at s n h m e = false≢true (sym m ∙ and_true _ _ (is_less n (length s) h) (same _ 34 e))

-- the same by these tests
module _ (place : ℕ) (s : List ℕ) (n : ℕ) (z : Lexemes) (begun : scan by_tokens (InWord place (take n s)) (drop n s) ≡ z) where
  pub word_on : n < length s → not (is_blank (get_or s n 0) || get_or s n 0 == 34) ≡ true → scan by_tokens (InWord place (take (n + 1) s)) (drop (n + 1) s) ≡ z
  word_on h k = word_more place s n z begun h (in_word_not_blank (get_or s n 0) k) (in_word_no_quote (get_or s n 0) k)

  pub word_quoted : (nat_lt n (length s) && get_or s n 0 == 34) ≡ true → z ≡ broken place
  word_quoted h =
      let m = equal _ _ (both _ _ h).1 in
      word_bad place s n z begun (less _ _ (both _ _ h).0) (rw m refl) m

  pub word_stops : n < length s → not (is_blank (get_or s n 0) || get_or s n 0 == 34) ≡ false → (get_or s n 0 ≡ 34 → ⊥) → z ≡ Next place (Word (take n s)) (tokens_of (drop n s))
  word_stops h k m = word_ends place s n z begun h (not_in_word_blank (get_or s n 0) k m)

-- a quoted token goes on, ends, or breaks the rules
module _ (place : ℕ) (s : List ℕ) (n : ℕ) (z : Lexemes) (begun : scan by_tokens (InQuote place (take n s)) (drop n s) ≡ z) where
  pub quote_more : n < length s → (get_or s n 0 ≡ 34 → ⊥) → 32 ≤ get_or s n 0 → scan by_tokens (InQuote place (take (n + 1) s)) (drop (n + 1) s) ≡ z
  quote_more h m k = rw (take_more s n 0 h) (sym (rw (other _ 34 m, above _ k) at (scan_quote_at place (take n s) s n h)) ∙ begun)
    where
      above : (b : ℕ) → 32 ≤ b → nat_lt b 32 ≡ false
      above b k = grind (arith, nat_tests)

  pub quote_ends : n < length s → get_or s n 0 ≡ 34 → scan by_tokens (AfterQuote place (take n s)) (drop (n + 1) s) ≡ z
  quote_ends h m = sym (rw (same _ 34 m) at (scan_quote_at place (take n s) s n h)) ∙ begun

  pub quote_bad : n < length s → get_or s n 0 < 32 → z ≡ broken place
  quote_bad h k = sym begun ∙ rw (other (get_or s n 0) 34 (λ m. omega arith), below _ k) at (scan_quote_at place (take n s) s n h)
    where
      below : (b : ℕ) → b < 32 → nat_lt b 32 ≡ true
      below b k = grind (arith, nat_tests)

  pub quote_open : length s ≤ n → z ≡ broken place
  quote_open h = sym begun ∙ rw (drop_all n s h) refl
