-- The front of a string that a pattern matches lies between the edges of the pattern.
use Rattle.std.proofs.Common.{◌≡◌, ◌≤◌, ◌+◌, ◌*◌, ◌%◌, ◌^◌, ℕ, zero, suc, true, List, [], ◌∷◌, drop, eqb, refl, ap, arith}
use Rattle.std.specs.Prelude.{nat_eq}
use Rattle.std.proofs.lemmas.Bool.{and_parts, eqb-true, false≢true}
use Rattle.sb_base.specs.Wide.{folded, is_same}
use Rattle.sb_rule.specs.Matching.{matches}
use Rattle.sb_rule.specs.declared.cells.Cell.{Cell}
use Rattle.sb_rule.specs.declared.cells.Cell.TheVariants.{Lit, One, Any}
use Rattle.sb_index.specs.Fronts.{digit, key, edge, past}

digit_small : (u : ℕ) → digit u ≤ 65535
digit_small u = omega arith

-- a number of n digits is not above that whose digits are the greatest
abbrev top : ℕ → ℕ
top n = edge 65535 n []

step_up : (a b p k t : ℕ) → a ≤ b → k ≤ t → a * p + k ≤ b * p + t
step_up a b p k t h e = omega (arith, mul_le a b p h, e)
  where
    mul_le : (a b p : ℕ) → a ≤ b → a * p ≤ b * p
    mul_le a b p h = grind (arith, h)

key_top : (n : ℕ) (us : List ℕ) → key n us ≤ top n
key_top zero us = omega arith
key_top (suc n) [] = omega arith
key_top (suc n) (u ∷ us) = step_up (digit u) 65535 (65536 ^ n) (key n us) (top n) (digit_small u) (key_top n us)

none_low : (n : ℕ) → edge 0 n [] ≡ 0
none_low zero = refl
none_low (suc n) = grind (arith, none_low n)

-- the front lies between the edges
abbrev pub LiesBetween : ℕ → List Cell → List ℕ → Type 0
LiesBetween n cells us = (edge 0 n cells ≤ key n us) × (key n us ≤ edge 65535 n cells)

below : (x y : ℕ) → x ≡ 0 → x ≤ y
below x y e = omega (arith, e)

wild : (n : ℕ) (cells : List Cell) (us : List ℕ) → edge 0 n cells ≡ 0 → edge 65535 n cells ≡ top n → LiesBetween n cells us
wild n cells us low high = (below (edge 0 n cells) (key n us) low, omega (arith, high, key_top n us))

front_lies : (n : ℕ) (cells : List Cell) (us : List ℕ) → matches cells us ≡ true → LiesBetween n cells us
front_lies zero cells us h = (omega arith, omega arith)
front_lies (suc n) [] us h = wild (suc n) [] us (none_low (suc n)) refl
front_lies (suc n) (Any ∷ cells) us h = wild (suc n) (Any ∷ cells) us (none_low (suc n)) refl
front_lies (suc n) (One ∷ cells) us h = wild (suc n) (One ∷ cells) us (none_low (suc n)) refl
front_lies (suc n) (Lit w ∷ cells) [] h = absurd (false≢true h)
front_lies (suc n) (Lit w ∷ cells) (u ∷ us) h =
    let p = and_parts (eqb (folded u) (folded w)) (matches cells us) h in
    let same : digit u ≡ digit w = ap (λ f. f % 65536) (eqb-true (folded u) (folded w) p.0) in
    let later = front_lies n cells us p.1 in (
      step_up (digit w) (digit u) (65536 ^ n) (edge 0 n cells) (key n us) (omega (arith, same)) later.0,
      step_up (digit u) (digit w) (65536 ^ n) (key n us) (edge 65535 n cells) (omega (arith, same)) later.1,
    )

pub past_lies : (n skip : ℕ) (cells : List Cell) (us : List ℕ) → matches cells us ≡ true → LiesBetween n (past skip cells) (drop skip us)
past_lies n zero cells us h = front_lies n cells us h
past_lies n (suc skip) [] [] h = front_lies n [] [] refl
past_lies n (suc skip) [] (u ∷ us) h = absurd (false≢true h)
past_lies n (suc skip) (Any ∷ cells) us h = any n (Any ∷ cells) (drop (suc skip) us) cells refl
  where
    any : (n : ℕ) (whole : List Cell) (rest : List ℕ) (cells : List Cell) → whole ≡ Any ∷ cells → LiesBetween n (Any ∷ cells) rest
    any zero whole rest cells e = (omega arith, omega arith)
    any (suc n) whole rest cells e = wild (suc n) (Any ∷ cells) rest (none_low (suc n)) refl
past_lies n (suc skip) (One ∷ cells) [] h = absurd (false≢true h)
past_lies n (suc skip) (One ∷ cells) (u ∷ us) h = past_lies n skip cells us h
past_lies n (suc skip) (Lit w ∷ cells) [] h = absurd (false≢true h)
past_lies n (suc skip) (Lit w ∷ cells) (u ∷ us) h = past_lies n skip cells us (and_parts (eqb (folded u) (folded w)) (matches cells us) h).1

-- strings that are the same have the same fronts
same_key : (n : ℕ) (us vs : List ℕ) → is_same us vs ≡ true → key n us ≡ key n vs
same_key zero us vs h = refl
same_key (suc n) [] [] h = refl
same_key (suc n) [] (v ∷ vs) h = absurd (false≢true h)
same_key (suc n) (u ∷ us) [] h = absurd (false≢true h)
same_key (suc n) (u ∷ us) (v ∷ vs) h =
    let p = and_parts (nat_eq (folded u) (folded v)) (is_same us vs) h in
    let same : folded u ≡ folded v = eqb-true (folded u) (folded v) p.0 in
    (λ i. same i % 65536 * 65536 ^ n + same_key n us vs p.1 i)

pub same_front : (n skip : ℕ) (us vs : List ℕ) → is_same us vs ≡ true → key n (drop skip us) ≡ key n (drop skip vs)
same_front n zero us vs h = same_key n us vs h
same_front n (suc skip) [] [] h = refl
same_front n (suc skip) [] (v ∷ vs) h = absurd (false≢true h)
same_front n (suc skip) (u ∷ us) [] h = absurd (false≢true h)
same_front n (suc skip) (u ∷ us) (v ∷ vs) h = same_front n skip us vs (and_parts (nat_eq (folded u) (folded v)) (is_same us vs) h).1
