use Rattle.std.proofs.Common.{◌≡◌}
use Rattle.std.specs.List.{find}
use Rattle.sb_names.specs.Entries.{is_of}
use Rattle.sb_names.specs.Keys.{key_of}
use Rattle.sb_names.proofs.maps.place.Given as goal

abbrev pub invariant-loop-number : goal.invariant-loop-number
invariant-loop-number g l = find (is_of (key_of l.name)) l.number-iterator ≡ find (is_of (key_of l.name)) l.initial.number-iterator
