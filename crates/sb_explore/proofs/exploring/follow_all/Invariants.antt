use Rattle.std.proofs.Common.{◌≡◌, ◌<◌, ℕ, true, length, take}
use Rattle.sb_explore.specs.Exploring.{list_at, is_letter, AreFound, AreInOrder, IsLonger, Leads}
use Rattle.sb_explore.proofs.exploring.follow_all.Given as goal

abbrev pub invariant-loop-letter : goal.invariant-loop-letter
invariant-loop-letter g l = record {
  found : AreFound (g.M.Machine.leads_to l.machine) l.words.items l.states.keys;
  order : AreInOrder l.words.items (length (list_at l.fn.words.items l.place));
  states : IsLonger l.fn.states.keys l.states.keys;
  words : IsLonger l.fn.words.items l.words.items;
  lead : (letter unit : ℕ) → is_letter (take l.letter-index l.letter-items) letter ≡ true → g.M.Machine.is_like l.machine (list_at l.fn.states.keys l.place) unit letter
      → Leads (g.M.Machine.stands_for l.machine) l.words.items l.states.keys (length (list_at l.fn.words.items l.place)) (list_at l.fn.states.keys l.place) unit;
}
