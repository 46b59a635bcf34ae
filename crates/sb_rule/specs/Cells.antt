-- The tests of equality of cells decide equality.
use Rattle.std.specs.Prelude.{◌≡◌, Bool, List, refl}
use Rattle.std.specs.Bool.{Decides}
use Rattle.std.specs.Cmp.Lexicographic.{pointwise, pointwise_decides}
use Rattle.std.proofs.Common.{rules}
use Rattle.std.proofs.lemmas.Bool.Decides.{nat_tests}
use Rattle.sb_base.specs.Deciding.{decides_never}
use Rattle.sb_rule.specs.contracts.cells.CellPartialEq.TheImpl.{eq-value as cell_eq}
use Rattle.sb_rule.specs.declared.cells.Cell.{Cell}
use Rattle.sb_rule.specs.declared.cells.Cell.TheVariants.{Lit, One, Any}

-- two lists have the same cells
abbrev pub same_cells : List Cell → List Cell → Bool
same_cells = pointwise cell_eq.it

pub cell_decides : (c d : Cell) → Decides (cell_eq.it c d) (c ≡ d)
cell_decides (Lit u) (Lit v) = (λ e. search (rules, nat_tests), λ p. search (rules, nat_tests))
cell_decides One One = (λ e. refl, λ p. refl)
cell_decides Any Any = (λ e. refl, λ p. refl)
cell_decides _ _ = decides_never (λ p. search rules)

pub cells_decide : (cs ds : List Cell) → Decides (same_cells cs ds) (cs ≡ ds)
cells_decide = pointwise_decides cell_decides
