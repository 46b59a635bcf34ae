use Rattle.std.proofs.Common.{◌≡◌, ◌≤◌, ◌+◌, ◌*◌, ◌^◌, drop}
use Rattle.sb_cover.specs.Lengths.{words_of}
use Rattle.sb_cover.proofs.lengths.words_of.Given as goal

abbrev pub invariant-loop-at : goal.invariant-loop-at
invariant-loop-at l = record {
  sum : l.words + words_of (drop l.at l.args) ≡ words_of l.args;
  few : l.words ≤ l.at * 2 ^ 64;
}
