-- What files hold, how an output grows, and when a count of faults rose.
use Rattle.std.specs.Prelude.{◌++◌, option_map, ◌≡◌, ℕ, ◌+◌, ◌-◌, ◌^◌, ◌<◌, ◌≤◌, ◌⊎◌, List, length, Option, None, Some, min, ⊤, IsSomeAnd}
use Rattle.std.specs.List.{flat_map}

-- at a name its content, if there is a file of that name
abbrev pub Held : Type 0
Held = List ℕ → Option (List ℕ)

-- a count of 64 bits that stays at its last value
abbrev pub next_count : ℕ → ℕ
next_count n = min (n + 1) (2 ^ 64 - 1)

-- the count rose, or was at its last value
abbrev pub Rose : ℕ → ℕ → Type 0
Rose before after = (before < after) ⊎ (2 ^ 64 - 1 ≤ before)

-- if the map is told, these bytes are the whole content under the name
abbrev pub IsContent : Option Held → List ℕ → List ℕ → Type 0
IsContent None name bytes = ⊤
IsContent (Some held) name bytes = held name ≡ Some bytes

-- if the map is told it lacks the name, and otherwise P
abbrev pub IsMissing : Option Held → List ℕ → Type 0 → Type 0
IsMissing None name P = P
IsMissing (Some held) name P = held name ≡ None

-- if the map is told the content is longer than `most`, and otherwise P
abbrev pub IsTooLong : Option Held → List ℕ → ℕ → Type 0 → Type 0
IsTooLong None name most P = P
IsTooLong (Some held) name most P = IsSomeAnd (held name) (λ bytes. most < length bytes)

-- new is old with these bytes, if old is told
abbrev pub GrowsBy : Option (List ℕ) → List ℕ → Option (List ℕ) → Type 0
GrowsBy old bytes new = new ≡ option_map (λ w. w ++ bytes) old

-- new is old with the first of the bytes that are due, if old is told, and the others are left
abbrev pub GrowsUpTo : Option (List ℕ) → List ℕ → Option (List ℕ) → List ℕ → Type 0
GrowsUpTo old due new left = (part : List ℕ) × (due ≡ part ++ left) × GrowsBy old part new

-- new is old with a prefix of these bytes, if old is told
abbrev pub GrowsByPrefix : Option (List ℕ) → List ℕ → Option (List ℕ) → Type 0
GrowsByPrefix old bytes new = (part : List ℕ) × (rest : List ℕ) × (bytes ≡ part ++ rest) × (new ≡ option_map (λ w. w ++ part) old)

-- the lines, one after another
abbrev pub joined : List (List ℕ) → List ℕ
joined lines = flat_map (λ line. line) lines
