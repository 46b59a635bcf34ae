use Rattle.std.proofs.Common.{◌≡◌, ◌++◌, take}
use Rattle.std.specs.List.{flat_map}
use Rattle.sb_base.specs.Quoting.{quoted_unit}
use Rattle.sb_base.proofs.quoting.append_units.Given as goal

abbrev pub invariant-loop-unit : goal.invariant-loop-unit
invariant-loop-unit l =
    l.out.items ≡ l.initial.out.items ++ flat_map quoted_unit (take l.unit-index l.units)
