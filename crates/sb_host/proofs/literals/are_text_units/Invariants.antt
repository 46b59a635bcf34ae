use Rattle.std.proofs.Common.{◌≡◌, drop}
use Rattle.std.specs.List.{list_all}
use Rattle.sb_base.specs.Wide.{is_text_unit}
use Rattle.sb_host.proofs.literals.are_text_units.Given as goal

-- what is left of the units gives the same
abbrev pub invariant-loop-unit : goal.invariant-loop-unit
invariant-loop-unit l = list_all is_text_unit (drop l.unit-index l.units) ≡ list_all is_text_unit l.units
