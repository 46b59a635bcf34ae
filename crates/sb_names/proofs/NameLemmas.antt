-- Names cut at a `\`: the last component with what is before it, and the first with what follows.
use Rattle.std.proofs.Common.{◌≡◌, ◌+◌, ◌||◌, ℕ, Bool, true, false, refl, sym, ◌∙◌, ap, arith, suc, List, [], ◌∷◌, ◌++◌, take, drop, if◌then◌else◌}
use Rattle.std.proofs.lemmas.Bool.{and_parts}
use Rattle.std.proofs.lemmas.Bool.Decides.{nat_tests}
use Rattle.std.proofs.lemmas.List.{append_cancel_left, take-append-drop}
use Rattle.std.specs.Prelude.{not}
use Rattle.std.specs.List.{list_any, list_all, prefix_len}
use Rattle.sb_base.specs.Names.{is_component, is_ordinary, ends_well}
use Rattle.sb_base.specs.Wide.{folded}
use Rattle.sb_names.specs.Keys.{key_of, parent_of, is_backslash}
use Rattle.sb_names.specs.Nodes.{is_path}

pub any_in : (us ys : List ℕ) → list_any is_backslash (us ++ 92 ∷ ys) ≡ true
any_in [] ys = refl
any_in (u ∷ us) ys = by (is_backslash u) (any_in us ys)
  where
    by : (b : Bool) → list_any is_backslash (us ++ 92 ∷ ys) ≡ true → (b || list_any is_backslash (us ++ 92 ∷ ys)) ≡ true
    by true h = refl
    by false h = h

-- the parent of a path with more after it
pub parent_path : (q s : List ℕ) → parent_of (q ++ 92 ∷ s) ≡ q ++ parent_of (92 ∷ s)
parent_path [] s = refl
parent_path (u ∷ us) s = rw (any_in us s) (ap (λ more. u ∷ more) (parent_path us s))

-- what is before a last component is the parent
pub parent_last : (x y : List ℕ) → list_any is_backslash y ≡ false → parent_of (x ++ 92 ∷ y) ≡ x
parent_last [] y h = rw h refl
parent_last (u ∷ us) y h = rw (any_in us y) (ap (λ more. u ∷ more) (parent_last us y h))

pub parent_is_path : (s : List ℕ) → is_path (parent_of (92 ∷ s)) ≡ true
parent_is_path s = by (list_any is_backslash s)
  where
    by : (b : Bool) → is_path (if b then 92 ∷ parent_of s else []) ≡ true
    by true = refl
    by false = refl

-- the parent of a path is a path
pub path_parent : (us : List ℕ) → is_path us ≡ true → is_path (parent_of us) ≡ true
path_parent [] h = refl
path_parent (u ∷ us) h =
    let e : u ≡ 92 = grind (arith, nat_tests, h) in
    ap (λ v. is_path (parent_of (v ∷ us))) e ∙ parent_is_path us

-- equal names are cut alike: what is before the last components is equal, and so are these
pub last_equal : (x y x' y' : List ℕ) → list_any is_backslash y ≡ false → list_any is_backslash y' ≡ false
    → x ++ 92 ∷ y ≡ x' ++ 92 ∷ y' → (x ≡ x') × (y ≡ y')
last_equal x y x' y' h h' e =
    let front : x ≡ x' = sym (parent_last x y h) ∙ ap parent_of e ∙ parent_last x' y' h' in
    let back : 92 ∷ y ≡ 92 ∷ y' = append_cancel_left x (92 ∷ y) (92 ∷ y') (e ∙ ap (λ f. f ++ 92 ∷ y') (sym front)) in
    (front, ap (λ ys. drop 1 ys) back)

-- no name ends with nothing
pub not_nothing : (x y : List ℕ) → x ++ 92 ∷ y ≡ [] → ⊥
not_nothing [] y e = absurd (cc)
not_nothing (u ∷ us) y e = absurd (cc)

pub nothing_before : (q r : List ℕ) → q ++ r ≡ [] → q ≡ []
nothing_before [] r e = refl
nothing_before (u ∷ us) r e = absurd (cc)

pub backslash_folded : (u : ℕ) → is_backslash (folded u) ≡ is_backslash u
backslash_folded u = grind (arith, nat_tests)

pub any_folded : (us : List ℕ) → list_any is_backslash (key_of us) ≡ list_any is_backslash us
any_folded [] = refl
any_folded (u ∷ us) = rw (backslash_folded u, any_folded us) refl

ordinary_part : (us : List ℕ) → list_all is_ordinary us ≡ true → list_any is_backslash us ≡ false
ordinary_part [] h = refl
ordinary_part (u ∷ us) h =
    let parts = and_parts (is_ordinary u) (list_all is_ordinary us) h in
    let one : is_backslash u ≡ false = grind (arith, nat_tests, parts.0) in
    rw (one, ordinary_part us parts.1) refl

-- a component has no `\`
pub component_plain : (part : List ℕ) → is_component part ≡ true → list_any is_backslash (key_of part) ≡ false
component_plain part h = any_folded part ∙ ordinary_part part (and_parts (ends_well part) (list_all is_ordinary part) h).1

abbrev pub plain : ℕ → Bool
plain u = not (is_backslash u)

pub first_part : (us : List ℕ) → (list_any is_backslash (take (prefix_len plain us) us) ≡ false) × (is_path (drop (prefix_len plain us) us) ≡ true)
first_part [] = (refl, refl)
first_part (u ∷ us) = by (is_backslash u) refl (first_part us)
  where
    by : (b : Bool) → is_backslash u ≡ b
        → (list_any is_backslash (take (prefix_len plain us) us) ≡ false) × (is_path (drop (prefix_len plain us) us) ≡ true)
        → (list_any is_backslash (take (if not b then 1 + prefix_len plain us else 0) (u ∷ us)) ≡ false)
        × (is_path (drop (if not b then 1 + prefix_len plain us else 0) (u ∷ us)) ≡ true)
    by true e i = (refl, e)
    by false e i =
        let one_more : 1 + prefix_len plain us ≡ suc (prefix_len plain us) = omega arith in
        (ap (λ n. list_any is_backslash (take n (u ∷ us))) one_more ∙ rw (e, i.0) refl, ap (λ n. is_path (drop n (u ∷ us))) one_more ∙ i.1)

pub first_rest : (us : List ℕ) → is_path (drop (prefix_len plain us) us) ≡ true
first_rest us = (first_part us).1

pub parts_join : (us : List ℕ) → take (prefix_len plain us) us ++ drop (prefix_len plain us) us ≡ us
parts_join us = take-append-drop (prefix_len plain us) us

pub folded_join : (a b : List ℕ) → key_of (a ++ b) ≡ key_of a ++ key_of b
folded_join [] b = refl
folded_join (u ∷ us) b = ap (λ more. folded u ∷ more) (folded_join us b)

pub folded_path : (us : List ℕ) → is_path (key_of us) ≡ is_path us
folded_path [] = refl
folded_path (u ∷ us) = backslash_folded u
