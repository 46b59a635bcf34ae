use Rattle.std.proofs.Common.{◌≡◌, take}
use Rattle.sb_host.specs.Literals.{literal_text}
use Rattle.sb_host.proofs.literals.pattern_text.Given as goal

-- the units so far are written
abbrev pub invariant-loop-unit : goal.invariant-loop-unit
invariant-loop-unit l = l.text.items ≡ literal_text (take l.unit-index l.units)
