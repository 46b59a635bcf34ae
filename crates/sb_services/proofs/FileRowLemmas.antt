-- Rows of which all pass a test.
use Rattle.std.proofs.Common.{◌≡◌, ℕ, Bool, true, false, cond, sym, ◌∙◌, ap, List, [], ◌∷◌, refl}
use Rattle.std.proofs.lemmas.Bool.{and_parts}
use Rattle.std.specs.Prelude.{Option, None, Some}
use Rattle.std.specs.List.{list_all}
use Rattle.std.specs.Map.{lookup}
use Rattle.sb_names.specs.Keys.{key_of}
use Rattle.sb_names.specs.Maps.{Rows, found, is_key}

-- all pass, and one is no other
pub all_with : {X : Type 0} (p : X → Bool) (x : X) (xs : List X) → p x ≡ true → list_all p xs ≡ true → list_all p (x ∷ xs) ≡ true
all_with p x xs h all = rw h all

pub first_of : {X : Type 0} (p : X → Bool) (x : X) (xs : List X) → list_all p (x ∷ xs) ≡ true → p x ≡ true
first_of p x xs all = (and_parts (p x) (list_all p xs) all).0

pub others_of : {X : Type 0} (p : X → Bool) (x : X) (xs : List X) → list_all p (x ∷ xs) ≡ true → list_all p xs ≡ true
others_of p x xs all = (and_parts (p x) (list_all p xs) all).1

-- all pass a test that is no narrower
pub widened : {X : Type 0} (p q : X → Bool) (xs : List X) → ((x : X) → p x ≡ true → q x ≡ true) → list_all p xs ≡ true → list_all q xs ≡ true
widened p q [] f h = refl
widened p q (x ∷ xs) f h = all_with q x xs (f x (first_of p x xs h)) (widened p q xs f (others_of p x xs h))

-- a value that is found passes if all values do
pub found_passes : (p : ℕ → Bool) (rows : Rows ℕ) (name : List ℕ) (number : ℕ) → found rows name ≡ Some number → list_all (λ row. p row.1) rows ≡ true → p number ≡ true
found_passes p [] name number f all = absurd (cc)
found_passes p (row ∷ rows) name number f all =
    by (is_key (key_of name) row.0) f (found_passes p rows name number)
  where
    value : Option ℕ → ℕ
    value None = row.1
    value (Some n) = n

    by : (b : Bool) → cond b (Some row.1) (lookup (is_key (key_of name)) rows) ≡ Some number
        → (found rows name ≡ Some number → list_all (λ row. p row.1) rows ≡ true → p number ≡ true) → p number ≡ true
    by true f i = sym (ap (λ o. p (value o)) f) ∙ first_of (λ row. p row.1) row rows all
    by false f i = i f (others_of (λ row. p row.1) row rows all)
