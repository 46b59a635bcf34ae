use Rattle.std.specs.List.{list_all}
use Rattle.std.proofs.Common.{◌≡◌, ◌<◌, ℕ, true, length}
use Rattle.sb_explore.specs.Exploring.{list_at, AreByLength}
use Rattle.sb_cover.specs.Choices.{ArePicked}
use Rattle.sb_cover.specs.Shown.{is_shown}
use Rattle.sb_cover.specs.TextMachines.{LeadsTo}
use Rattle.sb_cover.proofs.picking.pick_all.Given as goal

abbrev pub invariant-loop-place : goal.invariant-loop-place
invariant-loop-place l = record {
  all : (first : ℕ) → AreByLength l.words
      → ((k : ℕ) → k < length l.states → LeadsTo l.table.conds.items l.table.patterns.items l.questions first (list_at l.words k) (list_at l.states k))
      → ArePicked l.table.conds.items l.table.patterns.items l.questions first l.words l.states l.place l.picked.values.items l.picked.labels.keys;
  shown : l.table.is_plain ≡ true → list_all is_shown l.picked.values.items ≡ true;
}
