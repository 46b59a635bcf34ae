use Rattle.std.proofs.Common.{◌≡◌, map, take}
use Rattle.sb_cover.specs.AskedConds.{cells_of_cond}
use Rattle.sb_cover.proofs.tables.patterns_of.Given as goal

abbrev pub invariant-loop-asked : goal.invariant-loop-asked
invariant-loop-asked l = l.patterns.items ≡ map cells_of_cond (take l.asked-index l.conds)
