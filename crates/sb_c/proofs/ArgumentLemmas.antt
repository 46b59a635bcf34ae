-- Each string lies within the units.
use Rattle.std.proofs.Common.{◌≡◌, ℕ, true, List, ◌∷◌}
use Rattle.std.proofs.lemmas.Bool.{and_parts}
use Rattle.sb_c.specs.Arguments.{are_within, is_within}
use Rattle.sb_c.specs.declared.shapes.Argument.{Argument}

pub first_within : (units : List ℕ) (a : Argument) (later : List Argument) → are_within units (a ∷ later) ≡ true → is_within units a ≡ true
first_within units a later h = (and_parts (is_within units a) (are_within units later) h).0

pub later_within : (units : List ℕ) (a : Argument) (later : List Argument) → are_within units (a ∷ later) ≡ true → are_within units later ≡ true
later_within units a later h = (and_parts (is_within units a) (are_within units later) h).1
