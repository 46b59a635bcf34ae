-- Units that are told apart at a position, and one that stands for all others.
use Rattle.std.specs.Prelude.{◌≡◌, ◌&&◌, ◌==◌, ℕ, Bool, true, false, not, List, [], ◌∷◌}
use Rattle.std.specs.List.{list_all, list_any}
use Rattle.sb_base.specs.Names.{is_ordinary}
use Rattle.sb_base.specs.Wide.{folded}
use Rattle.sb_cover.specs.Positions.{cells_at, cells_from}
use Rattle.sb_cover.specs.Shown.{is_plain_unit}
use Rattle.sb_rule.specs.declared.cells.Cell.{Cell}
use Rattle.sb_rule.specs.declared.cells.Cell.TheVariants.{Lit, One, Any}

-- one of the letters is the unit, whatever its case
abbrev pub has_letter : List ℕ → ℕ → Bool
has_letter letters u = list_any (λ v. folded v == folded u) letters

-- the cells that the next unit can meet: those up to the first that is no `*`; if that one is a literal, the letters have it
abbrev pub are_noted : List ℕ → List Cell → Bool
are_noted letters [] = true
are_noted letters (Any ∷ rest) = are_noted letters rest
are_noted letters (One ∷ rest) = true
are_noted letters (Lit w ∷ rest) = has_letter letters w

-- the letters have those that the next unit can meet at the position
abbrev pub is_noted : List (List Cell) → List ℕ → ℕ → Bool
is_noted patterns letters position = are_noted letters (cells_from patterns position)

-- the letters have each unit that they had
abbrev pub AreKept : List ℕ → List ℕ → Type 0
AreKept old new = (u : ℕ) → has_letter old u ≡ true → has_letter new u ≡ true

-- the cell is no literal that matches the unit
abbrev pub is_apart : ℕ → Cell → Bool
is_apart other (Lit w) = not (folded w == other)
is_apart other One = true
is_apart other Any = true

-- the unit can be in a component of a name and at its end, a script can have it, it is its own folding, and no literal of the patterns matches it
pub record IsStandIn (patterns : List (List Cell)) (other : ℕ) : Type 0 where
  pub apart : (k : ℕ) → list_all (is_apart other) (cells_at patterns k) ≡ true
  pub ordinary : is_ordinary other ≡ true
  pub own : folded other ≡ other
  pub no_dot : (other == 46) ≡ false
  pub no_space : (other == 32) ≡ false
  pub plain : is_plain_unit other ≡ true
