use Rattle.std.proofs.Common.{◌≡◌, ◌≤◌, ◌+◌, ◌*◌, ◌^◌, drop}
use Rattle.sb_cover.specs.Lengths.{units_of}
use Rattle.sb_cover.proofs.lengths.units_of.Given as goal

abbrev pub invariant-loop-at : goal.invariant-loop-at
invariant-loop-at l = record {
  sum : l.units + units_of (drop l.at l.args) ≡ units_of l.args;
  few : l.units ≤ l.at * 2 ^ 64;
}
