use Rattle.std.specs.List.{Contains}
use Rattle.std.proofs.Common.{◌≤◌, ◌<◌, ◌^◌, ℕ, length}
use Rattle.sb_explore.specs.Exploring.{list_at}
use Rattle.sb_cover.specs.Bits.{value_of, AreBelow}
use Rattle.sb_cover.proofs.number_covers.numbers_of.Given as goal

abbrev pub invariant-loop-word : goal.invariant-loop-word
invariant-loop-word l = record {
  here : (k : ℕ) → k < l.word-index → l.width ≤ length (list_at l.words k) → Contains l.values.items (value_of l.width (list_at l.words k));
  below : AreBelow (2 ^ l.width) l.values.items;
}
