-- What a name is.
use Rattle.std.specs.Prelude.{◌≡◌, ℕ, ◌-◌, Bool, true, false, ◌&&◌, not, ◌==◌, nat_lt, nat_le, List, [], ◌∷◌, length, slice_index}
use Rattle.std.specs.List.{flat_map, slice_split, list_all}

-- neither a control unit, nor `\`, nor `/`, nor `*`
abbrev pub is_ordinary : ℕ → Bool
is_ordinary u = nat_le 32 u && not (u == 92) && not (u == 47) && not (u == 42)

-- not empty, and its last unit is neither a space nor `.`
abbrev pub ends_well : List ℕ → Bool
ends_well part =
    nat_lt 0 (length part) && not (slice_index part (length part - 1) == 32) && not (slice_index part (length part - 1) == 46)

-- ends well, and has ordinary units alone
abbrev pub is_component : List ℕ → Bool
is_component part = ends_well part && list_all is_ordinary part

-- the parts between each two `\`
abbrev pub parts_of : List ℕ → List (List ℕ)
parts_of us = slice_split (λ u. u == 92) us

-- a `\`, and then components with a `\` between each two
abbrev pub is_name_of : List ℕ → Bool
is_name_of [] = false
is_name_of (u ∷ us) = u == 92 && list_all is_component (parts_of us)

-- each component after a `\`
abbrev pub path_of : List (List ℕ) → List ℕ
path_of cs = flat_map (λ c. 92 ∷ c) cs

-- the components of a name
abbrev pub components_of : List ℕ → List (List ℕ)
components_of [] = []
components_of (u ∷ us) = parts_of us

-- one or more components, each after a `\`, are a name
abbrev pub PathsAreNames : Type 0
PathsAreNames = (c : List ℕ) (cs : List (List ℕ)) → list_all is_component (c ∷ cs) ≡ true → is_name_of (path_of (c ∷ cs)) ≡ true

-- and they are the components of that name
abbrev pub PathsHaveTheirComponents : Type 0
PathsHaveTheirComponents = (c : List ℕ) (cs : List (List ℕ)) → list_all is_component (c ∷ cs) ≡ true
    → components_of (path_of (c ∷ cs)) ≡ c ∷ cs

-- each name is the path of its components
abbrev pub NamesArePaths : Type 0
NamesArePaths = (us : List ℕ) → is_name_of us ≡ true
    → (list_all is_component (components_of us) ≡ true) × (path_of (components_of us) ≡ us)

-- no component is `.` or `..`
abbrev pub DotsAreNoComponents : Type 0
DotsAreNoComponents = (is_component (46 ∷ []) ≡ false) × (is_component (46 ∷ 46 ∷ []) ≡ false)
