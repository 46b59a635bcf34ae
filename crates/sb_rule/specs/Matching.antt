-- When a pattern matches.
use Rattle.std.specs.Prelude.{◌≡◌, ℕ, Bool, true, false, ◌&&◌, ◌||◌, ◌==◌, List, [], ◌∷◌, map}
use Rattle.sb_base.specs.Wide.{folded, is_same}
use Rattle.sb_rule.specs.declared.cells.Cell.{Cell}
use Rattle.sb_rule.specs.declared.cells.Cell.TheVariants.{Lit, One, Any}

-- the test holds of some rest of the units, the units themselves and the empty rest included
abbrev pub matches_some_rest : (List ℕ → Bool) → List ℕ → Bool
matches_some_rest test [] = test []
matches_some_rest test (u ∷ us) = test (u ∷ us) || matches_some_rest test us

-- no cells match the empty string; a literal matches a unit that is equal after folding, `?` any unit, `*` any run of units
abbrev pub matches : List Cell → List ℕ → Bool
matches [] [] = true
matches [] (u ∷ us) = false
matches (Any ∷ later) us = matches_some_rest (matches later) us
matches (Lit w ∷ later) [] = false
matches (Lit w ∷ later) (u ∷ us) = folded u == folded w && matches later us
matches (One ∷ later) [] = false
matches (One ∷ later) (u ∷ us) = matches later us

-- the cells with their literals folded
abbrev pub fold_cell : Cell → Cell
fold_cell (Lit u) = Lit (folded u)
fold_cell One = One
fold_cell Any = Any

-- literals alone match exactly the strings that are the same as they are
abbrev pub LiteralsMatchTheSame : Type 0
LiteralsMatchTheSame = (literals us : List ℕ) → matches (map Lit literals) us ≡ is_same us literals

-- `*` alone matches every string
abbrev pub StarMatchesAll : Type 0
StarMatchesAll = (us : List ℕ) → matches (Any ∷ []) us ≡ true

-- a string is matched if its folding is
abbrev pub MatchingFoldsTheString : Type 0
MatchingFoldsTheString = (cells : List Cell) (us : List ℕ) → matches cells (map folded us) ≡ matches cells us

-- cells match what they match with their literals folded
abbrev pub MatchingFoldsTheLiterals : Type 0
MatchingFoldsTheLiterals = (cells : List Cell) (us : List ℕ) → matches (map fold_cell cells) us ≡ matches cells us
