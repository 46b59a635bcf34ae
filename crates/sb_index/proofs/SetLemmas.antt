-- Bits of sets.
use Rattle.std.proofs.Math.Bool.{or-false}
use Rattle.std.specs.Int.{bit_at, trailing_zeros, w64}
use Rattle.std.specs.Int.RustNames.{bit_and, bit_or}
use Rattle.std.specs.Prelude.{slice_index_or, slice_set}
use Rattle.std.proofs.Common.{◌≡◌, ◌≢◌, ◌∙◌, ◌==◌, Bool, true, false, ◌≤◌, ◌<◌, ◌+◌, ◌-◌, ◌*◌, ◌/◌, ◌%◌, ◌^◌, ℕ, zero, suc, min, ltb, List, [], ◌∷◌, length, ◌&&◌, ◌||◌, max, refl, ap, sym, arith, eqb}
use Rattle.std.proofs.lemmas.Bool.{eqb-false, eqb-true, false≢true, ltb-false, ltb-true}
use Rattle.std.proofs.lemmas.List.{get_or-set_same, get_or-set_other, get_or_past}
use Rattle.std.proofs.lemmas.Nat.Bits.{bit_at-lt, bit_at_and, bit_at_or, bit_at_ones, bit_at_set_same, bit_at_set_other, bit_at-zero, bit_at_above, bit_at-trailing_zeros, shr_and_one}
use Rattle.std.proofs.lemmas.Nat.{shr-shr}
use Rattle.sb_index.specs.Sets.{has, Has}

-- the bit of a number is 1
abbrev Bit : List ℕ → ℕ → Type 0
Bit words k = bit_at (slice_index_or words (k / 64) 0) (k % 64) ≡ 1

has_bit : (words : List ℕ) (k : ℕ) → Has words k → Bit words k
has_bit words k h = eqb-true (bit_at (slice_index_or words (k / 64) 0) (k % 64)) 1 h

bit_has : (words : List ℕ) (k : ℕ) → Bit words k → Has words k
bit_has words k e = ap (λ n. eqb n 1) e

zero_bit : (i : ℕ) → eqb (bit_at 0 i) 1 ≡ false
zero_bit i = ap (λ n. eqb n 1) (bit_at-zero i)

pub none_has : (k : ℕ) → has (0 ∷ 0 ∷ 0 ∷ 0 ∷ []) k ≡ false
none_has k = by (k / 64) (k % 64)
  where
    by : (w b : ℕ) → eqb (bit_at (slice_index_or (0 ∷ 0 ∷ 0 ∷ 0 ∷ []) w 0) b) 1 ≡ false
    by zero b = zero_bit b
    by (suc zero) b = zero_bit b
    by (suc (suc zero)) b = zero_bit b
    by (suc (suc (suc zero))) b = zero_bit b
    by (suc (suc (suc (suc w)))) b =
        let past = get_or_past (0 ∷ 0 ∷ 0 ∷ 0 ∷ []) (suc (suc (suc (suc w)))) 0 (omega arith) in
        ap (λ n. eqb (bit_at n b) 1) past ∙ zero_bit b

abbrev ones : List ℕ
ones = (2 ^ 64 - 1) ∷ (2 ^ 64 - 1) ∷ (2 ^ 64 - 1) ∷ (2 ^ 64 - 1) ∷ []

all_bits : (k : ℕ) → k < 256 → Bit ((2 ^ 64 - 1) ∷ (2 ^ 64 - 1) ∷ (2 ^ 64 - 1) ∷ (2 ^ 64 - 1) ∷ []) k
all_bits k h = by (k / 64) (k % 64) (omega (arith, h)) (omega arith)
  where
    by : (w b : ℕ) → w < 4 → b < 64 → bit_at (slice_index_or ((2 ^ 64 - 1) ∷ (2 ^ 64 - 1) ∷ (2 ^ 64 - 1) ∷ (2 ^ 64 - 1) ∷ []) w 0) b ≡ 1
    by zero b h k = bit_at_ones 64 b k
    by (suc zero) b h k = bit_at_ones 64 b k
    by (suc (suc zero)) b h k = bit_at_ones 64 b k
    by (suc (suc (suc zero))) b h k = bit_at_ones 64 b k
    by (suc (suc (suc (suc w)))) b h k = absurd (omega (arith, h))

pub all_has : (k : ℕ) → has ((2 ^ 64 - 1) ∷ (2 ^ 64 - 1) ∷ (2 ^ 64 - 1) ∷ (2 ^ 64 - 1) ∷ []) k ≡ ltb k 256
all_has k = within (ltb k 256) refl
  where
    within : (b : Bool) → ltb k 256 ≡ b → has ones k ≡ b
    within true t = let h = ltb-true k 256 t in bit_has ones k (all_bits k h)
    within false t =
        let h = ltb-false k 256 t in
        let past = get_or_past ones (k / 64) 0 (omega (arith, h)) in
        ap (λ n. eqb (bit_at n (k % 64)) 1) past ∙ zero_bit (k % 64)

-- a bit by its test
pub clear_bit : (n i : ℕ) → (bit_and (n / 2 ^ i) 1 == 0) ≡ true → bit_at n i ≡ 0
clear_bit n i h = sym (shr_and_one n i) ∙ eqb-true (bit_and (n / 2 ^ i) 1) 0 h

pub set_bit : (n i : ℕ) → (bit_and (n / 2 ^ i) 1 == 0) ≡ false → bit_at n i ≡ 1
set_bit n i h = one (bit_at n i) (bit_at-lt n i) (ap (λ m. eqb m 0) (sym (shr_and_one n i)) ∙ h)
  where
    one : (m : ℕ) → m < 2 → eqb m 0 ≡ false → m ≡ 1
    one zero h t = absurd (false≢true (sym t))
    one (suc zero) h t = refl
    one (suc (suc m)) h t = absurd (omega (arith, h))

no_bit : (P : Type 0) (i : ℕ) → bit_at 0 i ≡ 1 → P
no_bit P i h = absurd (omega (arith, h, bit_at-zero i))

-- a bit of two words, by a test of the bits
both_bits : (a b i : ℕ) → eqb (bit_at (bit_and a b) i) 1 ≡ (eqb (bit_at a i) 1 && eqb (bit_at b i) 1)
both_bits a b i = ap (λ n. eqb n 1) (bit_at_and a b i) ∙ by (bit_at a i) (bit_at b i) (bit_at-lt a i) (bit_at-lt b i)
  where
    by : (x y : ℕ) → x < 2 → y < 2 → eqb (min x y) 1 ≡ (eqb x 1 && eqb y 1)
    by zero zero h g = refl
    by zero (suc zero) h g = refl
    by (suc zero) zero h g = refl
    by (suc zero) (suc zero) h g = refl
    by zero (suc (suc y)) h g = absurd (omega (arith, g))
    by (suc zero) (suc (suc y)) h g = absurd (omega (arith, g))
    by (suc (suc x)) y h g = absurd (omega (arith, h))

either_bits : (a b i : ℕ) → eqb (bit_at (bit_or a b) i) 1 ≡ (eqb (bit_at a i) 1 || eqb (bit_at b i) 1)
either_bits a b i = ap (λ n. eqb n 1) (bit_at_or a b i) ∙ by (bit_at a i) (bit_at b i) (bit_at-lt a i) (bit_at-lt b i)
  where
    by : (x y : ℕ) → x < 2 → y < 2 → eqb (max x y) 1 ≡ (eqb x 1 || eqb y 1)
    by zero zero h g = refl
    by zero (suc zero) h g = refl
    by (suc zero) zero h g = refl
    by (suc zero) (suc zero) h g = refl
    by zero (suc (suc y)) h g = absurd (omega (arith, g))
    by (suc zero) (suc (suc y)) h g = absurd (omega (arith, g))
    by (suc (suc x)) y h g = absurd (omega (arith, h))

-- four words, each by an operation on those of two sets
abbrev pub words_by : (ℕ → ℕ → ℕ) → List ℕ → List ℕ → List ℕ
words_by f a b =
    f (slice_index_or a 0 0) (slice_index_or b 0 0) ∷ f (slice_index_or a 1 0) (slice_index_or b 1 0)
    ∷ f (slice_index_or a 2 0) (slice_index_or b 2 0) ∷ f (slice_index_or a 3 0) (slice_index_or b 3 0) ∷ []

by_words : (f : ℕ → ℕ → ℕ) (g : Bool → Bool → Bool) → ((a b i : ℕ) → eqb (bit_at (f a b) i) 1 ≡ g (eqb (bit_at a i) 1) (eqb (bit_at b i) 1))
    → false ≡ g false false → (a b : List ℕ) (k : ℕ) → length a ≡ 4 → length b ≡ 4 → has (words_by f a b) k ≡ g (has a k) (has b k)
by_words f g each none a b k four for = at (k / 64) (k % 64)
  where
    at : (w i : ℕ) → eqb (bit_at (slice_index_or (words_by f a b) w 0) i) 1
        ≡ g (eqb (bit_at (slice_index_or a w 0) i) 1) (eqb (bit_at (slice_index_or b w 0) i) 1)
    at zero i = each (slice_index_or a 0 0) (slice_index_or b 0 0) i
    at (suc zero) i = each (slice_index_or a 1 0) (slice_index_or b 1 0) i
    at (suc (suc zero)) i = each (slice_index_or a 2 0) (slice_index_or b 2 0) i
    at (suc (suc (suc zero))) i = each (slice_index_or a 3 0) (slice_index_or b 3 0) i
    at (suc (suc (suc (suc w)))) i =
        let n = suc (suc (suc (suc w))) in
        let new : slice_index_or (words_by f a b) n 0 ≡ 0 = get_or_past (words_by f a b) n 0 (omega arith) in
        let left : slice_index_or a n 0 ≡ 0 = get_or_past a n 0 (omega (arith, four)) in
        let right : slice_index_or b n 0 ≡ 0 = get_or_past b n 0 (omega (arith, for)) in
        ap (λ m. eqb (bit_at m i) 1) new ∙ zero_bit i ∙ none
        ∙ ap (λ x. g x false) (sym (ap (λ m. eqb (bit_at m i) 1) left ∙ zero_bit i))
        ∙ ap (λ x. g (eqb (bit_at (slice_index_or a n 0) i) 1) x) (sym (ap (λ m. eqb (bit_at m i) 1) right ∙ zero_bit i))

pub intersected : (a b : List ℕ) (k : ℕ) → length a ≡ 4 → length b ≡ 4 → has (words_by bit_and a b) k ≡ (has a k && has b k)
intersected a b k four for = by_words bit_and (λ x y. x && y) both_bits refl a b k four for

pub united : (a b : List ℕ) (k : ℕ) → length a ≡ 4 → length b ≡ 4 → has (words_by bit_or a b) k ≡ (has a k || has b k)
united a b k four for = by_words bit_or (λ x y. x || y) either_bits refl a b k four for

-- a bit that is set, and those that were
abbrev pub with_bit : ℕ → ℕ → ℕ
with_bit n i = bit_or n (1 * 2 ^ i % 18446744073709551616)

pub bit_set : (n i : ℕ) → i < 64 → bit_at (with_bit n i) i ≡ 1
bit_set n i h = bit_at_set_same w64 n i h

pub differ : (a b : ℕ) → eqb a b ≡ false → a ≢ b
differ a b t e = eqb-false a b t e

or_true : (b : Bool) → (b || true) ≡ true
or_true true = refl
or_true false = refl

pub inserted : (words : List ℕ) (n k : ℕ) → n / 64 < length words
    → has (slice_set words (n / 64) (with_bit (slice_index_or words (n / 64) 0) (n % 64))) k ≡ (has words k || eqb k n)
inserted words n k h = by (eqb k n) refl
  where
    v : ℕ
    v = with_bit (slice_index_or words (n / 64) 0) (n % 64)

    here : Has (slice_set words (n / 64) v) n
    here = bit_has (slice_set words (n / 64) v) n
        (ap (λ w. bit_at w (n % 64)) (get_or-set_same words (n / 64) v 0 h) ∙ bit_set (slice_index_or words (n / 64) 0) (n % 64) (omega arith))

    other : k ≢ n → (b : Bool) → eqb (k / 64) (n / 64) ≡ b
        → bit_at (slice_index_or (slice_set words (n / 64) v) (k / 64) 0) (k % 64) ≡ bit_at (slice_index_or words (k / 64) 0) (k % 64)
    other ne true t =
        let same : k / 64 ≡ n / 64 = eqb-true (k / 64) (n / 64) t in
        let apart : k % 64 ≢ n % 64 = λ e. ne (omega (arith, same, e)) in
        ap (λ w. bit_at (slice_index_or (slice_set words (n / 64) v) w 0) (k % 64)) same
        ∙ ap (λ w. bit_at w (k % 64)) (get_or-set_same words (n / 64) v 0 h)
        ∙ bit_at_set_other w64 (slice_index_or words (n / 64) 0) (n % 64) (omega arith) (k % 64) apart
        ∙ ap (λ w. bit_at (slice_index_or words w 0) (k % 64)) (sym same)
    other ne false t =
        ap (λ w. bit_at w (k % 64)) (get_or-set_other words (n / 64) (k / 64) v 0 (differ (k / 64) (n / 64) t))

    by : (b : Bool) → eqb k n ≡ b → has (slice_set words (n / 64) v) k ≡ (has words k || b)
    by true t =
        ap (has (slice_set words (n / 64) v)) (eqb-true k n t) ∙ here ∙ sym (or_true (has words k))
    by false t = ap (λ m. eqb m 1) (other (differ k n t) (eqb (k / 64) (n / 64)) refl) ∙ sym (or-false (has words k))

-- the lowest bit of a word from one place on
later_bit : (words : List ℕ) (at k : ℕ) → at ≤ k → k < (at / 64 + 1) * 64 → Has words k
    → bit_at (slice_index_or words (at / 64) 0 / 2 ^ (at % 64)) (k - at) ≡ 1
later_bit words at k h g found =
    let word : k / 64 ≡ at / 64 = omega (arith, h, g) in
    let bit : k % 64 ≡ at % 64 + (k - at) = omega (arith, h, g) in
    ap (λ n. n % 2) (shr-shr (slice_index_or words (at / 64) 0) (at % 64) (k - at))
    ∙ ap (bit_at (slice_index_or words (at / 64) 0)) (sym bit)
    ∙ ap (λ w. bit_at (slice_index_or words w 0) (k % 64)) (sym word) ∙ has_bit words k found

pub none_left : (words : List ℕ) (from at k : ℕ) → slice_index_or words (at / 64) 0 / 2 ^ (at % 64) ≡ 0
    → ((k : ℕ) → from ≤ k → k < at → Has words k → ⊥) → from ≤ k → k < (at / 64 + 1) * 64 → Has words k → ⊥
none_left words from at k none before h g found = by (ltb k at) refl
  where
    by : (b : Bool) → ltb k at ≡ b → ⊥
    by true t = before k h (ltb-true k at t) found
    by false t = no_bit ⊥ (k - at) (ap (λ n. bit_at n (k - at)) (sym none) ∙ later_bit words at k (ltb-false k at t) g found)

bit_below : (i word : ℕ) → word < 2 ^ 64 → bit_at word i ≡ 1 → i < 64
bit_below i word small bit = by (ltb i 64) refl
  where
    by : (b : Bool) → ltb i 64 ≡ b → i < 64
    by true t = ltb-true i 64 t
    by false t = absurd (omega (arith, bit, bit_at_above word 64 i small (ltb-false i 64 t)))

pub lowest_left : (words : List ℕ) (from at : ℕ) → slice_index_or words (at / 64) 0 < 2 ^ 64 → at < 256
    → 0 < slice_index_or words (at / 64) 0 / 2 ^ (at % 64) → slice_index_or words (at / 64) 0 / 2 ^ (at % 64) < 2 ^ 64
    → ((k : ℕ) → from ≤ k → k < at → Has words k → ⊥)
    → (at + trailing_zeros w64 (slice_index_or words (at / 64) 0 / 2 ^ (at % 64)) < 256)
    × Has words (at + trailing_zeros w64 (slice_index_or words (at / 64) 0 / 2 ^ (at % 64)))
    × ((k : ℕ) → from ≤ k → k < at + trailing_zeros w64 (slice_index_or words (at / 64) 0 / 2 ^ (at % 64)) → Has words k → ⊥)
lowest_left words from at small low some fits before =
    let word = slice_index_or words (at / 64) 0 in
    let t = trailing_zeros w64 (word / 2 ^ (at % 64)) in
    let p = bit_at-trailing_zeros w64 (word / 2 ^ (at % 64)) some fits in
    let bit : bit_at word (at % 64 + t) ≡ 1 = ap (λ n. n % 2) (sym (shr-shr word (at % 64) t)) ∙ p.1 in
    let inside : at % 64 + t < 64 = bit_below (at % 64 + t) word small bit in
    let end : at + t < (at / 64 + 1) * 64 = omega (arith, inside) in (
      omega (arith, low, end),
      bit_has words (at + t)
          (ap (λ w. bit_at (slice_index_or words w 0) ((at + t) % 64)) (omega (arith, end))
          ∙ ap (bit_at word) (omega (arith, inside)) ∙ bit),
      λ k h g found. by t p.2 end k h g found (ltb k at) refl,
    )
  where
    by : (t : ℕ) → ((i : ℕ) → i < t → bit_at (slice_index_or words (at / 64) 0 / 2 ^ (at % 64)) i ≡ 0) → at + t < (at / 64 + 1) * 64
        → (k : ℕ) → from ≤ k → k < at + t → Has words k → (b : Bool) → ltb k at ≡ b → ⊥
    by t zeros end k h g found true e = before k h (ltb-true k at e) found
    by t zeros end k h g found false e =
        let later : at ≤ k = ltb-false k at e in
        let one = later_bit words at k later (omega (arith, g, end)) found in
        let none = zeros (k - at) (omega (arith, later, g)) in
        absurd (omega (arith, one, none))
