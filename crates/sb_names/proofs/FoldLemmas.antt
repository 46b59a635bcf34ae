-- Names that are folded in their place, and rows that are chosen one after the other.
use Rattle.std.proofs.Common.{◌≡◌, ◌<◌, ◌≤◌, ℕ, zero, suc, refl, ap, arith, List, [], ◌∷◌, ◌++◌, length, take, drop, get_or, set, map}
use Rattle.sb_base.specs.Wide.{folded}

-- with the first this many units folded
abbrev pub folded_to : ℕ → List ℕ → List ℕ
folded_to n us = map folded (take n us) ++ drop n us

pub folded_more : (us : List ℕ) (n : ℕ) → n < length us → set (folded_to n us) n (folded (get_or (folded_to n us) n 0)) ≡ folded_to (suc n) us
folded_more [] n l = absurd (omega arith)
folded_more (u ∷ us) zero l = refl
folded_more (u ∷ us) (suc n) l = ap (λ more. folded u ∷ more) (folded_more us n (omega arith))

pub folded_whole : (us : List ℕ) (n : ℕ) → length us ≤ n → folded_to n us ≡ map folded us
folded_whole [] zero l = refl
folded_whole [] (suc n) l = refl
folded_whole (u ∷ us) zero l = absurd (omega arith)
folded_whole (u ∷ us) (suc n) l = ap (λ more. folded u ∷ more) (folded_whole us n (omega arith))

pub length_folded : (us : List ℕ) (n : ℕ) → length (folded_to n us) ≡ length us
length_folded [] zero = refl
length_folded [] (suc n) = refl
length_folded (u ∷ us) zero = refl
length_folded (u ∷ us) (suc n) = ap suc (length_folded us n)
