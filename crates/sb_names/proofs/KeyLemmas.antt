-- The parent of a name is the first part of it.
use Rattle.std.proofs.Common.{◌≡◌, ◌≤◌, ◌+◌, ◌||◌, ℕ, Bool, true, false, refl, ap, arith, List, [], ◌∷◌, length, take, if◌then◌else◌}
use Rattle.std.specs.List.{list_any}
use Rattle.sb_names.specs.Keys.{parent_of, is_backslash}

parent_prefix : (us : List ℕ) → (take (length (parent_of us)) us ≡ parent_of us) × (length (parent_of us) ≤ length us)
parent_prefix [] = (refl, omega arith)
parent_prefix (u ∷ us) = by (list_any is_backslash us) (parent_prefix us)
  where
    by : (b : Bool) → (take (length (parent_of us)) us ≡ parent_of us) × (length (parent_of us) ≤ length us)
        → (take (length (if b then u ∷ parent_of us else [])) (u ∷ us) ≡ (if b then u ∷ parent_of us else [])) × (length (if b then u ∷ parent_of us else []) ≤ length (u ∷ us))
    by true h = (ap (λ more. u ∷ more) h.0, grind (arith, h.1))
    by false h = (refl, omega arith)

pub parent_start : (us : List ℕ) → take (length (parent_of us)) us ≡ parent_of us
parent_start us = (parent_prefix us).0

pub parent_short : (us : List ℕ) → length (parent_of us) ≤ length us
parent_short us = (parent_prefix us).1

-- without a `\` there is no parent
pub parent_none : (us : List ℕ) → length (parent_of us) ≡ (if list_any is_backslash us then 0 + length (parent_of us) else 0)
parent_none [] = refl
parent_none (u ∷ us) = by (is_backslash u) (list_any is_backslash us)
  where
    by : (is any : Bool) → length (if any then u ∷ parent_of us else []) ≡ (if is || any then 0 + length (if any then u ∷ parent_of us else []) else 0)
    by true true = omega arith
    by true false = refl
    by false true = omega arith
    by false false = refl

-- the last `\` is one of the later units, if there is one, and else this one or one before
pub last_later : (u : ℕ) (us : List ℕ) (at last : ℕ)
    → (if list_any is_backslash (u ∷ us) then at + length (parent_of (u ∷ us)) else last)
    ≡ (if list_any is_backslash us then at + 1 + length (parent_of us) else (if is_backslash u then at else last))
last_later u us at last = by (is_backslash u) (list_any is_backslash us)
  where
    by : (is any : Bool) → (if is || any then at + length (if any then u ∷ parent_of us else []) else last)
        ≡ (if any then at + 1 + length (parent_of us) else (if is then at else last))
    by true true = omega arith
    by true false = omega arith
    by false true = omega arith
    by false false = refl
