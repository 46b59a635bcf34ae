-- Where a fragment is in a string. A position in a string is what is left of the string from there on.
use Rattle.std.specs.Prelude.{ℕ, ◌-◌, Bool, true, false, ◌==◌, nat_le, List, [], ◌∷◌, length, drop, Option, None, Some, option_and_then, is_some, if◌then◌else◌}
use Rattle.std.specs.Option.{option_or}
use Rattle.sb_base.specs.Wide.{folded}
use Rattle.sb_rule.specs.declared.cells.Cell.{Cell}
use Rattle.sb_rule.specs.declared.cells.Cell.TheVariants.{Lit, One, Any}
use Rattle.sb_opcode.specs.declared.opcodes.Seek.{Seek}
use Rattle.sb_opcode.specs.declared.opcodes.Seek.TheVariants.{Skip, Forward, ToEnd}

-- a unit is that of a literal, folded or as it is; any unit is a `?`, and none is a `*`
abbrev pub unit_fits : Bool → Cell → ℕ → Bool
unit_fits fold (Lit w) u = if fold then folded u == folded w else u == w
unit_fits fold One u = true
unit_fits fold Any u = false

-- what is left after the fragment, if it is at the front
abbrev pub after_fragment : Bool → List Cell → List ℕ → Option (List ℕ)
after_fragment fold [] us = Some us
after_fragment fold (cell ∷ cells) [] = None
after_fragment fold (cell ∷ cells) (u ∷ us) = if unit_fits fold cell u then after_fragment fold cells us else None

-- what is left after this many units, if there are as many
abbrev pub after_units : ℕ → List ℕ → Option (List ℕ)
after_units n us = if nat_le n (length us) then Some (drop n us) else None

-- what is left after the fragment at the first place where it occurs
abbrev pub after_first : Bool → List Cell → List ℕ → Option (List ℕ)
after_first fold cells [] = after_fragment fold cells []
after_first fold cells (u ∷ us) = option_or (after_fragment fold cells (u ∷ us)) (after_first fold cells us)

-- what is left after the fragment, if it is at the end
abbrev pub after_end : Bool → List Cell → List ℕ → Option (List ℕ)
after_end fold cells us =
    if nat_le (length cells) (length us) then after_fragment fold cells (drop (length us - length cells) us) else None

-- what is left after the fragment, if it is where it is sought
abbrev pub after_seek : Seek → Bool → List Cell → List ℕ → Option (List ℕ)
after_seek (Skip n) fold cells us = option_and_then (after_fragment fold cells) (after_units n us)
after_seek Forward fold cells us = after_first fold cells us
after_seek ToEnd fold cells us = after_end fold cells us

-- nothing is left
abbrev pub at_end : Option (List ℕ) → Option (List ℕ)
at_end None = None
at_end (Some []) = Some []
at_end (Some (u ∷ us)) = None

-- a string begins with a fragment, folded, and has no unit after it if that is to be the whole
abbrev pub has_front : List Cell → Bool → List ℕ → Bool
has_front cells whole us = is_some (if whole then at_end (after_fragment true cells us) else after_fragment true cells us)
