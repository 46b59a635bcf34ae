use Rattle.std.proofs.Common.{◌≡◌, length}
use Rattle.sb_names.specs.Keys.{key_of, is_below}
use Rattle.sb_names.proofs.keys.is_below.Given as goal

abbrev pub invariant-loop-unit : goal.invariant-loop-unit
invariant-loop-unit l = is_below (key_of l.name) (key_of l.lower) ≡ is_below (key_of l.initial.name) (key_of l.initial.lower)

abbrev pub decreases-loop-unit : goal.decreases-loop-unit
decreases-loop-unit l = length l.name
