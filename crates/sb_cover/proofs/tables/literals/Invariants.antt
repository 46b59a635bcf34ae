use Rattle.std.proofs.Common.{◌≡◌, map, take}
use Rattle.sb_rule.specs.declared.cells.Cell.TheVariants.{Lit}
use Rattle.sb_cover.proofs.tables.literals.Given as goal

abbrev pub invariant-loop-unit : goal.invariant-loop-unit
invariant-loop-unit l = l.cells.items ≡ map Lit (take l.unit-index l.text)
