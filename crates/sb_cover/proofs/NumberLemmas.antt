-- The numbers of the words that lead to the states of the machine of numbers stand for all numbers.
use Rattle.std.proofs.Common.{◌≡◌, ◌∙◌, ◌≤◌, ◌<◌, ◌+◌, ◌-◌, ◌*◌, ◌/◌, ◌%◌, ◌^◌, ℕ, zero, suc, Bool, true, false, List, [], ◌∷◌, ◌++◌, ◌&&◌, ◌||◌, eqb, length, take, map, get_or, refl, ap, sym, subst, arith, length-append}
use Rattle.std.specs.List.{Contains}
use Rattle.std.proofs.Math.Nat.{mod-eq_of_lt}
use Rattle.std.proofs.lemmas.Bool.{eqb-true}
use Rattle.std.proofs.lemmas.Bool.Decides.{nat_tests}
use Rattle.std.proofs.lemmas.List.{get_or_append_left, get_or_push, get_or-map, length-map, length-take, take_all, take_more}
use Rattle.std.proofs.lemmas.Nat.{pow-add, pow_below}
use Rattle.sb_cover.specs.Bits.{codes_of, value_from, value_of, bits_of, AreBelow, IsRead, AreNumbers}
use Rattle.sb_explore.specs.Exploring.{list_at, AreFound, AllReached}
use Rattle.sb_cover.specs.declared.bits.Comparison.{Comparison}
use Rattle.sb_cover.proofs.BitLemmas.{bits_value, value_longer, same_head, same_tail}

double_below : (i : ℕ) → 2 ^ (i + 1) ≡ 2 * 2 ^ i
double_below i = pow-add 2 i 1 ∙ swapped (2 ^ i)
  where
    swapped : (p : ℕ) → p * 2 ^ 1 ≡ 2 * p
    swapped p = omega arith

pow_most : (i : ℕ) → i < 64 → 2 ^ (i + 1) ≤ 2 ^ 64
pow_most i h = by (eqb (i + 1) 64) refl
  where
    by : (b : Bool) → eqb (i + 1) 64 ≡ b → 2 ^ (i + 1) ≤ 2 ^ 64
    by true e = let same : i + 1 ≡ 64 = grind (arith, nat_tests) in subst (λ n. 2 ^ n ≤ 2 ^ 64) (sym same) (omega arith)
    by false e =
        let less : i + 1 < 64 = grind (arith, nat_tests) in
        let below = pow_below (i + 1) 64 less in omega (arith, below)

pub bit_fits : (value i : ℕ) → value < 2 ^ i → i < 64 → value * 2 + 1 < 2 ^ 64
bit_fits value i low few =
    let limit = pow_most i few in
    let double = double_below i in
    omega (arith, limit, double, low)

pub below_more : (value i bit : ℕ) → value < 2 ^ i → value * 2 + bit % 2 < 2 ^ (i + 1)
below_more value i bit low =
    let double = double_below i in
    let last : bit % 2 < 2 = omega arith in
    omega (arith, double, low, last)

pub value_more : (bits : List ℕ) (i value : ℕ) → i < length bits → value ≡ value_from 0 (take i bits) → value * 2 + get_or bits i 0 % 2 ≡ value_from 0 (take (i + 1) bits)
value_more bits i value low e =
    ap (λ v. v * 2 + get_or bits i 0 % 2) e ∙ sym (ap (value_from 0) (take_more bits i 0 low) ∙ value_longer (take i bits) 0 (get_or bits i 0))

bits_long : (width n : ℕ) → length (bits_of width n) ≡ width
bits_long zero n = refl
bits_long (suc width) n = omega (arith, bits_long width n)

number_read : (comparisons : List Comparison) (width n : ℕ) (state : List ℕ) → n < 2 ^ width → IsRead comparisons width (bits_of width n) state → state ≡ 0 ∷ codes_of comparisons 0 n
number_read comparisons width n state low read =
    let none : width - length (bits_of width n) ≡ 0 = omega (arith, bits_long width n) in
    let all : length (bits_of width n) ≤ width = omega (arith, bits_long width n) in
    let value : value_of width (bits_of width n) ≡ n = ap (value_from 0) (take_all width (bits_of width n) all) ∙ bits_value width 0 n ∙ least in
    read ∙ (λ i. none i ∷ codes_of comparisons (none i) (value i))
  where
    least : 0 * 2 ^ width + n % 2 ^ width ≡ n
    least = let whole = mod-eq_of_lt low in omega (arith, whole)

value_from_below : (word : List ℕ) (v n : ℕ) → v < 2 ^ n → value_from v word < 2 ^ (n + length word)
value_from_below [] v n low = let e : n + 0 ≡ n = omega arith in subst (λ m. v < 2 ^ m) (sym e) low
value_from_below (b ∷ bs) v n low =
    let e : n + 1 + length bs ≡ n + length (b ∷ bs) = omega arith in
    subst (λ m. value_from (v * 2 + b % 2) bs < 2 ^ m) e (value_from_below bs (v * 2 + b % 2) (n + 1) (below_more v n b low))

pub pow_up : (i j : ℕ) → i ≤ j → 2 ^ i ≤ 2 ^ j
pow_up i j h = by (eqb i j) refl
  where
    by : (b : Bool) → eqb i j ≡ b → 2 ^ i ≤ 2 ^ j
    by true e = let same : i ≡ j = grind (arith, nat_tests) in subst (λ n. 2 ^ i ≤ 2 ^ n) same (omega arith)
    by false e =
        let less : i < j = grind (arith, nat_tests) in
        let below = pow_below i j less in omega (arith, below)

value_below : (width : ℕ) (word : List ℕ) → value_of width word < 2 ^ width
value_below width word =
    let below : value_from 0 (take width word) < 2 ^ (0 + length (take width word)) = value_from_below (take width word) 0 0 (omega arith) in
    let e : 0 + length (take width word) ≡ length (take width word) = omega arith in
    let short : length (take width word) ≤ width = omega (arith, length-take width word) in
    let up = pow_up (length (take width word)) width short in
    omega (arith, subst (λ m. value_from 0 (take width word) < 2 ^ m) e below, up)

-- one number more below the limit
pub below_pushed : (width : ℕ) (word values new : List ℕ) (value : ℕ) → value ≡ value_of width word → new ≡ values ++ value ∷ [] → AreBelow (2 ^ width) values → AreBelow (2 ^ width) new
below_pushed width word values new value v e below = subst (AreBelow (2 ^ width)) (sym e) whole
  where
    whole : AreBelow (2 ^ width) (values ++ value ∷ [])
    whole k h = by (eqb k (length values)) refl
      where
        by : (b : Bool) → eqb k (length values) ≡ b → get_or (values ++ value ∷ []) k 0 < 2 ^ width
        by true e =
            let same : length values ≡ k = sym (eqb-true k (length values) e) in
            subst (λ n. n < 2 ^ width) (sym (get_or_push values value 0 k same ∙ v)) (value_below width word)
        by false e =
            let less : k < length values = grind (arith, nat_tests, length-append values (value ∷ [])) in
            subst (λ n. n < 2 ^ width) (sym (get_or_append_left values (value ∷ []) 0 k less)) (below k less)

pub numbers_stand : (comparisons : List Comparison) (width : ℕ) (words states : List (List ℕ)) (values : List ℕ)
    → AreFound (IsRead comparisons width) words states → AllReached (IsRead comparisons width) words states
    → ((k : ℕ) → k < length words → width ≤ length (list_at words k) → Contains values (value_of width (list_at words k)))
    → AreNumbers comparisons width values
numbers_stand comparisons width words states values found all contain n low =
    let reached = all (bits_of width n) in
    let word = list_at words reached.0 in
    let low_word : reached.0 < length words = omega (arith, found.as_many, reached.1) in
    let same : (width - length word) ∷ codes_of comparisons (width - length word) (value_of width word) ≡ 0 ∷ codes_of comparisons 0 n =
    sym (found.each reached.0 reached.1) ∙ number_read comparisons width n (list_at states reached.0) low reached.3 in
    let none : width - length word ≡ 0 = same_head (width - length word) 0 (codes_of comparisons (width - length word) (value_of width word)) (codes_of comparisons 0 n) same in
    let codes : codes_of comparisons (width - length word) (value_of width word) ≡ codes_of comparisons 0 n =
    same_tail (width - length word) 0 (codes_of comparisons (width - length word) (value_of width word)) (codes_of comparisons 0 n) same in
    let long : width ≤ length word = omega (arith, none) in
    (value_of width word, contain reached.0 low_word long, ap (λ left. codes_of comparisons left (value_of width word)) (sym none) ∙ codes, value_below width word)

-- nothing is compared
pub zero_alone : (comparisons : List Comparison) (width : ℕ) (values : List ℕ) → length comparisons ≡ 0 → values ≡ 0 ∷ [] → AreNumbers comparisons width values
zero_alone [] width values none e n low =
    let zero_low : 0 < 2 ^ width = omega (arith, low) in
    (0, subst (λ l. Contains l 0) (sym e) (0, omega arith, refl), refl, zero_low)
zero_alone (c ∷ comparisons) width values none e n low = absurd (omega (arith, none))

pub zero_below : (width : ℕ) (values : List ℕ) → values ≡ 0 ∷ [] → AreBelow (2 ^ width) values
zero_below width values e k h =
    let first : k ≡ 0 = omega (arith, h, ap length e) in
    let up = pow_up 0 width (omega arith) in
    subst (λ n. n < 2 ^ width) (sym ((λ i. get_or (e i) (first i) 0))) (omega (arith, up))
