-- The rooms of a pool.
use Rattle.std.specs.Prelude.{Option, Some, None, List, [], ◌∷◌}

-- what is at the places that are not empty, in order
abbrev pub filled : {W : Type 0} → List (Option W) → List W
filled [] = []
filled (None ∷ slots) = filled slots
filled (Some work ∷ slots) = work ∷ filled slots
