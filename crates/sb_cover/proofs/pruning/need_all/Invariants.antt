use Rattle.std.specs.List.{list_all}
use Rattle.std.proofs.Common.{◌≡◌, true, take}
use Rattle.sb_cover.specs.Pruning.{is_needed, StayNeeded}
use Rattle.sb_cover.proofs.pruning.need_all.Given as goal

abbrev pub invariant-loop-cond : goal.invariant-loop-cond
invariant-loop-cond l = record {
  stay : StayNeeded l.fn.needed.items l.needed.items;
  here : list_all (is_needed l.needed.items) (take l.cond-index l.conds) ≡ true;
}
