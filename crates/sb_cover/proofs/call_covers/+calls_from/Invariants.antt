use Rattle.std.specs.List.{list_all}
use Rattle.std.proofs.Common.{◌≡◌, ◌<◌, ◌+◌, ℕ, true, length}
use Rattle.sb_call.specs.Arguments.{fit}
use Rattle.sb_cover.specs.Calls.{later_at, AreCalls}
use Rattle.sb_cover.specs.Choices.{is_shown_arg}
use Rattle.sb_cover.specs.Lefts.{left_at}
use Rattle.sb_cover.proofs.call_covers.+calls_from.Given as goal

abbrev pub decreases-calls_from : goal.decreases-calls_from
decreases-calls_from l = length l.kinds.now

abbrev pub invariant-loop-left : goal.invariant-loop-left
invariant-loop-left l = record {
  many : length l.laters.items ≡ l.left-index;
  all : (j : ℕ) → j < l.left-index → AreCalls l.table.conds.items (l.param + 1) l.rest (left_at l.left-items j) (later_at l.laters.items j);
  fit : (j : ℕ) → j < l.left-index → list_all (fit l.rest) (later_at l.laters.items j) ≡ true;
  shown : l.table.is_plain ≡ true → (j : ℕ) → j < l.left-index → list_all (list_all is_shown_arg) (later_at l.laters.items j) ≡ true;
}
