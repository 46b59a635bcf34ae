-- Texts that are cut at the same place in one way only.
use Rattle.std.specs.Fmt.{decimal, digits, digits_onto, digit_glyph}
use Rattle.std.specs.List.{list_all}
use Rattle.std.proofs.Common.{◌≡◌, ◌∙◌, ℕ, ◌/◌, ◌%◌, ◌^◌, ◌<◌, ◌≤◌, Bool, true, false, not, cond, eqb, ltb, ◌&&◌, List, [], ◌∷◌, ◌++◌, drop, get_or, refl, ap, sym, zero, suc, arith}
use Rattle.std.proofs.lemmas.Bool.{and_parts, false≢true, ltb-true}
use Rattle.std.proofs.lemmas.Bool.Decides.{nat_tests}
use Rattle.std.proofs.lemmas.Fmt.{digits_is_IsNumeral}
use Rattle.std.specs.Str.Parse.{digits_value}
use Rattle.sb_base.specs.Numbers.{hexadecimal, is_word64}

-- lists of which a test holds of one alone are not equal
pub apart : {A : Type 0} (test : List ℕ → Bool) (r s : List ℕ) → r ≡ s → test r ≡ true → test s ≡ false → A
apart test r s e hr hs = absurd (false≢true (sym hs ∙ ap test (sym e) ∙ hr))

pub clash : {A : Type 0} (b : Bool) → b ≡ true → not b ≡ true → A
clash true h k = absurd (false≢true k)
clash false h k = absurd (false≢true h)

pub same_head : {x y : ℕ} {xs ys : List ℕ} → x ∷ xs ≡ y ∷ ys → x ≡ y
same_head e = ap (λ l. get_or l 0 0) e

pub cancel : (p r s : List ℕ) → p ++ r ≡ p ++ s → r ≡ s
cancel [] r s e = e
cancel (x ∷ xs) r s e = cancel xs r s (ap (drop 1) e)

-- a byte of a word, which no blank and no LF is
abbrev pub is_letter : ℕ → Bool
is_letter b = ltb 32 b

-- a word has ended
abbrev pub is_ended : List ℕ → Bool
is_ended [] = true
is_ended (b ∷ bs) = not (is_letter b)

pub split_word : (a b r s : List ℕ) → list_all is_letter a ≡ true → list_all is_letter b ≡ true → is_ended r ≡ true → is_ended s ≡ true
    → a ++ r ≡ b ++ s → (a ≡ b) × (r ≡ s)
split_word [] [] r s ha hb hr hs e = (refl, e)
split_word [] (y ∷ ys) r s ha hb hr hs e =
    clash (is_letter y) (and_parts (is_letter y) (list_all is_letter ys) hb).0 (ap is_ended (sym e) ∙ hr)
split_word (x ∷ xs) [] r s ha hb hr hs e =
    clash (is_letter x) (and_parts (is_letter x) (list_all is_letter xs) ha).0 (ap is_ended e ∙ hs)
split_word (x ∷ xs) (y ∷ ys) r s ha hb hr hs e =
    let p = and_parts (is_letter x) (list_all is_letter xs) ha in
    let q = and_parts (is_letter y) (list_all is_letter ys) hb in
    let first : x ≡ y = same_head e in
    let later = split_word xs ys r s p.1 q.1 hr hs (ap (drop 1) e) in
    ((λ i. first i ∷ later.0 i), later.1)

-- a byte that is no `"`
abbrev pub is_no_quote : ℕ → Bool
is_no_quote b = not (eqb b 34)

quote_inside : (ys s : List ℕ) → list_all is_no_quote (ys ++ 34 ∷ s) ≡ false
quote_inside [] s = refl
quote_inside (y ∷ ys) s = ap (λ b. is_no_quote y && b) (quote_inside ys s) ∙ never (is_no_quote y)
  where
    never : (b : Bool) → (b && false) ≡ false
    never true = refl
    never false = refl

-- texts are cut in one way at their last `"`
pub split_quote : (a b r s : List ℕ) → list_all is_no_quote r ≡ true → list_all is_no_quote s ≡ true → a ++ 34 ∷ r ≡ b ++ 34 ∷ s → (a ≡ b) × (r ≡ s)
split_quote [] [] r s hr hs e = (refl, ap (drop 1) e)
split_quote [] (y ∷ ys) r s hr hs e = apart (list_all is_no_quote) r (ys ++ 34 ∷ s) (ap (drop 1) e) hr (quote_inside ys s)
split_quote (x ∷ xs) [] r s hr hs e = apart (list_all is_no_quote) s (xs ++ 34 ∷ r) (sym (ap (drop 1) e)) hs (quote_inside xs r)
split_quote (x ∷ xs) (y ∷ ys) r s hr hs e =
    let first : x ≡ y = same_head e in
    let later = split_quote xs ys r s hr hs (ap (drop 1) e) in
    ((λ i. first i ∷ later.0 i), later.1)

glyph_letter : (d : ℕ) → is_letter (digit_glyph false d) ≡ true
glyph_letter d = grind (arith, nat_tests)

by_test : (b : Bool) (x y : List ℕ) → list_all is_letter x ≡ true → list_all is_letter y ≡ true → list_all is_letter (cond b x y) ≡ true
by_test true x y hx hy = hx
by_test false x y hx hy = hy

onto_letters : (k base n : ℕ) (acc : List ℕ) → list_all is_letter acc ≡ true → list_all is_letter (digits_onto k base false n acc) ≡ true
onto_letters zero base n acc h = h
onto_letters (suc k) base n acc h =
    let one : list_all is_letter (digit_glyph false (n % base) ∷ acc) ≡ true = (λ i. glyph_letter (n % base) i && h i) in
    by_test (eqb (n / base) 0) (digit_glyph false (n % base) ∷ acc) _ one (onto_letters k base (n / base) (digit_glyph false (n % base) ∷ acc) one)

digits_letters : (base n : ℕ) → list_all is_letter (digits base false n) ≡ true
unfolding digits
digits_letters base n = onto_letters 64 base n [] refl

below : (n : ℕ) → is_word64 n ≡ true → n < 2 ^ 64
below n h = ltb-true n (2 ^ 64) h

digits_differ : (base m n : ℕ) → 2 ≤ base → base ≤ 16 → m < base ^ 64 → n < base ^ 64 → digits base false m ≡ digits base false n → m ≡ n
digits_differ base m n low high hm hn e =
    sym (digits_is_IsNumeral base false low high m hm).1 ∙ ap (digits_value base) e ∙ (digits_is_IsNumeral base false low high n hn).1

decimal_bound : (n : ℕ) → n < 2 ^ 64 → n < 10 ^ 64
decimal_bound n h = omega arith

hexadecimal_bound : (n : ℕ) → n < 2 ^ 64 → n < 16 ^ 64
hexadecimal_bound n h = omega arith

-- a decimal number at the beginning
pub split_decimal : (m n : ℕ) (r s : List ℕ) → is_word64 m ≡ true → is_word64 n ≡ true → is_ended r ≡ true → is_ended s ≡ true
    → decimal m ++ r ≡ decimal n ++ s → (m ≡ n) × (r ≡ s)
split_decimal m n r s hm hn hr hs e =
    let p = split_word (decimal m) (decimal n) r s (digits_letters 10 m) (digits_letters 10 n) hr hs e in
    (digits_differ 10 m n (omega arith) (omega arith) (decimal_bound m (below m hm)) (decimal_bound n (below n hn)) p.0, p.1)

-- a hexadecimal number at the beginning
pub split_hexadecimal : (m n : ℕ) (r s : List ℕ) → is_word64 m ≡ true → is_word64 n ≡ true → is_ended r ≡ true → is_ended s ≡ true
    → hexadecimal m ++ r ≡ hexadecimal n ++ s → (m ≡ n) × (r ≡ s)
split_hexadecimal m n r s hm hn hr hs e =
    let p = split_word (hexadecimal m) (hexadecimal n) r s (digits_letters 16 m) (digits_letters 16 n) hr hs e in
    (digits_differ 16 m n (omega arith) (omega arith) (hexadecimal_bound m (below m hm)) (hexadecimal_bound n (below n hn)) p.0, p.1)
