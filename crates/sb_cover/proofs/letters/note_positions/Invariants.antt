use Rattle.std.specs.List.{list_all}
use Rattle.std.proofs.Common.{◌≡◌, true, take}
use Rattle.sb_cover.specs.Letters.{is_noted, AreKept}
use Rattle.sb_cover.proofs.letters.note_positions.Given as goal

abbrev pub invariant-loop-position : goal.invariant-loop-position
invariant-loop-position l = record {
  here : list_all (is_noted l.patterns l.letters.items) (take l.position-index l.positions) ≡ true;
  kept : AreKept l.fn.letters.items l.letters.items;
}
