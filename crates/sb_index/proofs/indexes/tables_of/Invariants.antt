use Rattle.std.proofs.Common.{◌≤◌, length}
use Rattle.sb_index.specs.Tables.{AreTables}
use Rattle.sb_index.proofs.indexes.tables_of.Given as goal

abbrev pub invariant-loop-param : goal.invariant-loop-param
invariant-loop-param l = (length l.tables.items ≤ 2) × AreTables l.rules l.tag l.tables.items
