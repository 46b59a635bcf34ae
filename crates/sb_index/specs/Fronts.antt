-- What the units of a string from one place on are as a number, and what a pattern says of that number.
use Rattle.std.specs.Prelude.{ℕ, ◌+◌, ◌*◌, ◌%◌, ◌^◌, zero, suc, List, [], ◌∷◌}
use Rattle.sb_base.specs.Wide.{folded}
use Rattle.sb_rule.specs.declared.cells.Cell.{Cell}
use Rattle.sb_rule.specs.declared.cells.Cell.TheVariants.{Lit, One, Any}

-- a unit, folded, as a digit of such a number
abbrev pub digit : ℕ → ℕ
digit u = folded u % 65536

-- the first n units as a number, the first unit highest, with zeros after the end
abbrev pub key : ℕ → List ℕ → ℕ
key zero us = 0
key (suc n) [] = 0
key (suc n) (u ∷ us) = digit u * 65536 ^ n + key n us

-- the literals with which cells begin as such a number, with this digit from the first other cell on
abbrev pub edge : ℕ → ℕ → List Cell → ℕ
edge fill zero cells = 0
edge fill (suc n) [] = fill * 65536 ^ n + edge fill n []
edge fill (suc n) (Lit w ∷ cells) = digit w * 65536 ^ n + edge fill n cells
edge fill (suc n) (One ∷ cells) = fill * 65536 ^ n + edge fill n []
edge fill (suc n) (Any ∷ cells) = fill * 65536 ^ n + edge fill n []

-- the cells after this many, or from the first `*` among them on
abbrev pub past : ℕ → List Cell → List Cell
past zero cells = cells
past (suc n) [] = []
past (suc n) (Lit w ∷ cells) = past n cells
past (suc n) (One ∷ cells) = past n cells
past (suc n) (Any ∷ cells) = Any ∷ cells
