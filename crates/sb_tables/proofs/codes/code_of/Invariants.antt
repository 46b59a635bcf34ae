use Rattle.std.proofs.Common.{◌≤◌, length}
use Rattle.sb_tables.proofs.codes.code_of.Given as goal

abbrev pub invariant-loop-text : goal.invariant-loop-text
invariant-loop-text l = length l.code ≤ l.count
