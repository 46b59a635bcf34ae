-- Rows with one reply more.
use Rattle.std.proofs.Common.{◌≡◌, refl, sym, subst, ℕ, zero, suc, List, [], ◌∷◌, ◌++◌, false, length, get_or, ◌==◌, if◌then◌else◌, arith}
use Rattle.std.proofs.lemmas.Bool.Decides.{nat_tests}
use Rattle.std.specs.Prelude.{Option, None, Some}

pub none_after : {X : Type 0} (xs : List (Option X)) (q : ℕ) → get_or (xs ++ None ∷ []) q None ≡ get_or xs q None
none_after [] zero = refl
none_after [] (suc q) = refl
none_after (x ∷ xs) zero = refl
none_after (x ∷ xs) (suc q) = none_after xs q

differ : (q : ℕ) → (zero == suc q) ≡ false
differ q = grind (arith, nat_tests)

differ_too : (n : ℕ) → (suc n == zero) ≡ false
differ_too n = grind (arith, nat_tests)

same_next : (n q : ℕ) → (suc n == suc q) ≡ (n == q)
same_next n q = grind (arith, nat_tests)

pub one_after : {X : Type 0} (xs : List (Option X)) (own : X) (n q : ℕ) → length xs ≡ n → get_or (xs ++ Some own ∷ []) q None ≡ (if n == q then Some own else get_or xs q None)
one_after [] own zero zero e = refl
one_after [] own zero (suc q) e = subst (λ b. None ≡ (if b then Some own else None)) (sym (differ q)) refl
one_after [] own (suc n) q e = absurd (omega arith)
one_after (x ∷ xs) own zero q e = absurd (omega arith)
one_after (x ∷ xs) own (suc n) zero e = subst (λ b. x ≡ (if b then Some own else x)) (sym (differ_too n)) refl
one_after (x ∷ xs) own (suc n) (suc q) e =
    subst (λ b. get_or (xs ++ Some own ∷ []) q None ≡ (if b then Some own else get_or xs q None)) (sym (same_next n q)) (one_after xs own n q (omega arith))

-- rows that are all empty, with one empty row more
pub empty_after : {X : Type 0} (rows : List (List X)) (row : List X) (i : ℕ) → ((j : ℕ) → length (get_or rows j []) ≡ 0) → length row ≡ 0 → length (get_or (rows ++ row ∷ []) i []) ≡ 0
empty_after [] row zero h e = e
empty_after [] row (suc i) h e = refl
empty_after (x ∷ rows) row zero h e = h 0
empty_after (x ∷ rows) row (suc i) h e = empty_after rows row i (λ j. h (suc j)) e
