use Rattle.std.proofs.Common.{◌≡◌, ◌≤◌, ◌<◌, ◌+◌, ◌-◌, [], length}
use Rattle.sb_explore.specs.Exploring.{list_at, AreFound, AreByLength, AreInOrder, AreFollowed}
use Rattle.sb_explore.proofs.exploring.explore.Given as goal

abbrev pub invariant-loop-place : goal.invariant-loop-place
invariant-loop-place g l = record {
  found : AreFound (g.M.Machine.leads_to l.machine) l.words.items l.states.keys;
  by_length : AreByLength l.words.items;
  order : l.place < length l.states.keys → AreInOrder l.words.items (length (list_at l.words.items l.place));
  followed : AreFollowed (g.M.Machine.stands_for l.machine) l.words.items l.states.keys l.place;
  low : l.place ≤ l.limit;
  some : 0 < length l.states.keys;
  empty : length (list_at l.words.items 0) ≡ 0;
  start : g.M.Machine.stands_for l.machine [] (list_at l.states.keys 0);
}

abbrev pub decreases-loop-place : goal.decreases-loop-place
decreases-loop-place g l = l.limit + 1 - l.place
