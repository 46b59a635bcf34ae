-- The words of cells and of units, one more at a time.
use Rattle.std.proofs.Common.{◌≡◌, ◌+◌, ◌<◌, ◌++◌, ◌∷◌, [], ℕ, List, get_or, length, map, refl, take}
use Rattle.std.proofs.lemmas.List.{map-append, take_more}
use Rattle.sb_rule.specs.declared.cells.Cell.{Cell}
use Rattle.sb_rule.specs.declared.cells.Cell.TheVariants.{Lit}
use Rattle.sb_opcode.specs.Unpacking.{cell_of}

pub cell_more : (words : List ℕ) (cells : List Cell) (n w : ℕ) → n < length cells → map cell_of words ≡ take n cells → cell_of w ≡ get_or cells n (Lit 0)
    → map cell_of (words ++ w ∷ []) ≡ take (n + 1) cells
cell_more words cells n w h e f = rw (take_more cells n (Lit 0) h, map-append, e, f) refl

pub unit_more : (words units : List ℕ) (n w : ℕ) → n < length units → map cell_of words ≡ map Lit (take n units) → cell_of w ≡ Lit (get_or units n 0)
    → map cell_of (words ++ w ∷ []) ≡ map Lit (take (n + 1) units)
unit_more words units n w h e f = rw (take_more units n 0 h, map-append, map-append, e, f) refl
