use Rattle.std.proofs.Common.{◌≡◌, None, drop}
use Rattle.std.specs.Prelude.{option_map}
use Rattle.sb_link.specs.SortedFroms.{next_unit, walked}
use Rattle.sb_link.proofs.sorted_froms.longest.Given as goal

abbrev pub invariant-loop-entry : goal.invariant-loop-entry
invariant-loop-entry l =
    (walked l.links l.name l.count (option_map (λ k. k.now) l.found) (drop l.entry-index l.sorted) ≡ walked l.links l.name 0 None l.sorted)
    × (l.next ≡ next_unit (drop l.count l.name))
