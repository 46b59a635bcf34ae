-- The laws of numbers.
use Rattle.std.proofs.Common.{◌≡◌, ◌∙◌, ℕ, zero, suc, ◌+◌, ◌*◌, ◌/◌, ◌%◌, ◌^◌, ◌<◌, ◌≤◌, ◌==◌, Bool, true, false, cond, ◌&&◌, Some, Option, List, [], ◌∷◌, length, ap, refl, sym, arith}
use Rattle.std.proofs.lemmas.Grind.{common_steps}
use Rattle.std.proofs.lemmas.Bool.{false≢true}
use Rattle.std.proofs.lemmas.Bool.Decides.{nat_tests}
use Rattle.std.proofs.Math.Nat.{mod-lt, mod-add-div', pow-suc, pow-zero, div-lt_iff_lt-mul}
use Rattle.std.specs.Fmt.{digits, digits_onto, digit_glyph}
use Rattle.std.specs.List.{list_all}
use Rattle.sb_text.specs.Numbers.{is_decimal_digit, is_hexadecimal_digit, digit_of, value_from, below_2_64, are_digits, decimal_of, hexadecimal_of, number_of}
use Rattle.sb_text.specs.NumberLaws.{DecimalsAreRead, HexadecimalsAreRead}
use Rattle.sb_text.proofs.Conjunctions.{both, and_true}

digit_back : (d : ℕ) → d < 16 → digit_of (digit_glyph false d) ≡ d
digit_back d h = grind (arith, nat_tests, common_steps)

hexadecimal_glyph : (d : ℕ) → d < 16 → is_hexadecimal_digit (digit_glyph false d) ≡ true
hexadecimal_glyph d h = grind (arith, nat_tests, common_steps)

decimal_glyph : (d : ℕ) → d < 10 → is_decimal_digit (digit_glyph false d) ≡ true
decimal_glyph d h = grind (arith, nat_tests, common_steps)

-- a base of 10 or 16
record IsBase (base : ℕ) : Type 0 where
  least : 10 ≤ base
  most : base ≤ 16

last_digit : (base n : ℕ) → IsBase base → n % base < base
last_digit base n b = let l = b.least in mod-lt n (omega arith)

step_value : (base n : ℕ) → IsBase base → n / base * base + digit_of (digit_glyph false (n % base)) ≡ n
step_value base n b =
    let m = b.most in
    let l = last_digit base n b in
    ap (λ d. n / base * base + d) (digit_back (n % base) (omega arith)) ∙ omega (arith, mod-add-div' n base)

step_below : (base n m : ℕ) → IsBase base → n < base ^ suc m → n / base < base ^ m
step_below base n m b h = let l = b.least in (div-lt_iff_lt-mul (omega arith)).1 (omega (arith, h, pow-suc base m))

digits_value : (k base n : ℕ) (acc : List ℕ) → IsBase base → n < base ^ k → value_from base 0 (digits_onto k base false n acc) ≡ value_from base n acc
digits_value zero base n acc b h = ap (λ v. value_from base v acc) (omega (arith, h, pow-zero base))
digits_value (suc k) base n acc b h = by_last (n / base == 0) refl (digits_value k base (n / base) (digit_glyph false (n % base) ∷ acc) b (step_below base n k b h))
  where
    by_last : (t : Bool) → (n / base == 0) ≡ t → value_from base 0 (digits_onto k base false (n / base) (digit_glyph false (n % base) ∷ acc)) ≡ value_from base (n / base) (digit_glyph false (n % base) ∷ acc)
        → value_from base 0 (cond t (digit_glyph false (n % base) ∷ acc) (digits_onto k base false (n / base) (digit_glyph false (n % base) ∷ acc))) ≡ value_from base n acc
    by_last true e f = let z : n / base ≡ 0 = grind (arith, nat_tests) in ap (λ q. value_from base (q * base + digit_of (digit_glyph false (n % base))) acc) (sym z) ∙ ap (λ v. value_from base v acc) (step_value base n b)
    by_last false e f = f ∙ ap (λ v. value_from base v acc) (step_value base n b)

digits_some : (k base n : ℕ) (acc : List ℕ) → length acc ≤ length (digits_onto k base false n acc)
digits_some zero base n acc = omega arith
digits_some (suc k) base n acc = by_last (n / base == 0) (digits_some k base (n / base) (digit_glyph false (n % base) ∷ acc))
  where
    by_last : (t : Bool) → suc (length acc) ≤ length (digits_onto k base false (n / base) (digit_glyph false (n % base) ∷ acc))
        → length acc ≤ length (cond t (digit_glyph false (n % base) ∷ acc) (digits_onto k base false (n / base) (digit_glyph false (n % base) ∷ acc)))
    by_last true h = omega arith
    by_last false h = omega (arith, h)

digits_most : (k m base n : ℕ) (acc : List ℕ) → IsBase base → n < base ^ suc m → length (digits_onto k base false n acc) ≤ suc m + length acc
digits_most zero m base n acc b h = omega arith
digits_most (suc k) zero base n acc b h =
    let z = step_below base n zero b h in
    by_last (n / base == 0) refl (omega (arith, z, pow-zero base))
  where
    by_last : (t : Bool) → (n / base == 0) ≡ t → n / base ≡ 0 → length (cond t (digit_glyph false (n % base) ∷ acc) (digits_onto k base false (n / base) (digit_glyph false (n % base) ∷ acc))) ≤ 1 + length acc
    by_last true e z = omega arith
    by_last false e z = absurd (false≢true (sym e ∙ ap (λ q. q == 0) z))
digits_most (suc k) (suc m) base n acc b h = by_last (n / base == 0) (digits_most k m base (n / base) (digit_glyph false (n % base) ∷ acc) b (step_below base n (suc m) b h))
  where
    by_last : (t : Bool) → length (digits_onto k base false (n / base) (digit_glyph false (n % base) ∷ acc)) ≤ suc m + suc (length acc)
        → length (cond t (digit_glyph false (n % base) ∷ acc) (digits_onto k base false (n / base) (digit_glyph false (n % base) ∷ acc))) ≤ suc (suc m) + length acc
    by_last true h = omega arith
    by_last false h = omega (arith, h)

digits_all : (p : ℕ → Bool) (k base n : ℕ) (acc : List ℕ) → IsBase base → ((d : ℕ) → d < base → p (digit_glyph false d) ≡ true) → list_all p acc ≡ true → list_all p (digits_onto k base false n acc) ≡ true
digits_all p zero base n acc b f h = h
digits_all p (suc k) base n acc b f h = by_last (n / base == 0) (digits_all p k base (n / base) (digit_glyph false (n % base) ∷ acc) b f (and_true _ _ (f (n % base) (last_digit base n b)) h))
  where
    by_last : (t : Bool) → list_all p (digits_onto k base false (n / base) (digit_glyph false (n % base) ∷ acc)) ≡ true
        → list_all p (cond t (digit_glyph false (n % base) ∷ acc) (digits_onto k base false (n / base) (digit_glyph false (n % base) ∷ acc))) ≡ true
    by_last true e = and_true _ _ (f (n % base) (last_digit base n b)) h
    by_last false e = e

-- at least one digit is written
digits_one : (k base n : ℕ) → 1 ≤ length (digits_onto (suc k) base false n [])
digits_one k base n = by_last (n / base == 0) (digits_some k base (n / base) (digit_glyph false (n % base) ∷ []))
  where
    by_last : (t : Bool) → 1 ≤ length (digits_onto k base false (n / base) (digit_glyph false (n % base) ∷ []))
        → 1 ≤ length (cond t (digit_glyph false (n % base) ∷ []) (digits_onto k base false (n / base) (digit_glyph false (n % base) ∷ [])))
    by_last true h = omega arith
    by_last false h = h

are_made : (is_digit : ℕ → Bool) (most : ℕ) (ds : List ℕ) → 1 ≤ length ds → length ds ≤ most → list_all is_digit ds ≡ true → are_digits is_digit most ds ≡ true
are_made is_digit most ds h k l = grind (arith, nat_tests)

below_some : (n : ℕ) → n < 2 ^ 64 → below_2_64 n ≡ Some n
below_some n h = grind (arith, nat_tests)

hexadecimal_base : IsBase 16
hexadecimal_base = record { least = omega arith; most = omega arith }

decimal_base : IsBase 10
decimal_base = record { least = omega arith; most = omega arith }

hexadecimal_read : (n : ℕ) → n < 2 ^ 64 → hexadecimal_of (digits_onto 64 16 false n []) ≡ Some n
hexadecimal_read n h =
    let made = are_made is_hexadecimal_digit 16 (digits_onto 64 16 false n []) (digits_one 63 16 n) (digits_most 64 15 16 n [] hexadecimal_base (omega arith))
    (digits_all is_hexadecimal_digit 64 16 n [] hexadecimal_base hexadecimal_glyph refl) in
    let value = digits_value 64 16 n [] hexadecimal_base (omega arith) in
    rw (made, value) (below_some n h)

decimal_read : (n : ℕ) → n < 2 ^ 64 → decimal_of (digits_onto 64 10 false n []) ≡ Some n
decimal_read n h =
    let made = are_made is_decimal_digit 20 (digits_onto 64 10 false n []) (digits_one 63 10 n) (digits_most 64 19 10 n [] decimal_base (omega arith))
    (digits_all is_decimal_digit 64 10 n [] decimal_base decimal_glyph refl) in
    let value = digits_value 64 10 n [] decimal_base (omega arith) in
    rw (made, value) (below_some n h)

-- decimal digits do not begin with `0x`
no_prefix : (ds : List ℕ) → list_all is_decimal_digit ds ≡ true → number_of ds ≡ decimal_of ds
no_prefix [] h = refl
no_prefix (b ∷ []) h = refl
no_prefix (b ∷ c ∷ ds) h = let k = (both _ _ (both _ _ h).1).0 in not_x (b == 48) c (hexadecimal_of ds) (decimal_of (b ∷ c ∷ ds)) k
  where
    not_x : (t : Bool) (c : ℕ) (x y : Option ℕ) → is_decimal_digit c ≡ true → cond (t && (c == 120)) x y ≡ y
    not_x true c x y k = let e : (c == 120) ≡ false = grind (arith, nat_tests) in ap (λ t. cond t x y) e
    not_x false c x y k = refl

pub hexadecimals : HexadecimalsAreRead
unfolding digits
hexadecimals n h = hexadecimal_read n h

pub decimals : DecimalsAreRead
unfolding digits
decimals n h = (decimal_read n h, no_prefix (digits_onto 64 10 false n []) (digits_all is_decimal_digit 64 10 n [] decimal_base decimal_glyph refl) ∙ decimal_read n h)
