use Rattle.std.proofs.Common.{◌≡◌, map, take}
use Rattle.sb_rule.specs.declared.cells.Cell.TheVariants.{Lit}
use Rattle.sb_opcode.specs.Unpacking.{cell_of}
use Rattle.sb_opcode.proofs.codes.unit_words.Given as goal

abbrev pub invariant-loop-unit : goal.invariant-loop-unit
invariant-loop-unit l = map cell_of l.words.items ≡ map Lit (take l.unit-index l.units)
