-- Names as keys: folded, with their parents and what lies below them.
use Rattle.std.specs.Prelude.{ℕ, Bool, false, ◌&&◌, ◌==◌, List, [], ◌∷◌, map, if◌then◌else◌}
use Rattle.std.specs.List.{list_any}
use Rattle.sb_base.specs.Wide.{folded}

-- how a name is spelled, in small or capital letters, is no part of its meaning
abbrev pub key_of : List ℕ → List ℕ
key_of name = map folded name

-- the unit `\`
abbrev pub is_backslash : ℕ → Bool
is_backslash u = u == 92

-- what is before the last `\`: the name of the directory that a name is in, and nothing for the root
abbrev pub parent_of : List ℕ → List ℕ
parent_of [] = []
parent_of (u ∷ us) = if list_any is_backslash us then u ∷ parent_of us else []

-- the second key lies below the first: it is the first, a `\`, and more or nothing
abbrev pub is_below : List ℕ → List ℕ → Bool
is_below [] [] = false
is_below [] (v ∷ vs) = is_backslash v
is_below (u ∷ us) [] = false
is_below (u ∷ us) (v ∷ vs) = u == v && is_below us vs
