use Rattle.std.proofs.Common.{◌≡◌, ◌++◌, length, reverse}
use Rattle.sb_names.specs.Keys.{key_of}
use Rattle.sb_names.proofs.trees.push_backwards.Given as goal

abbrev pub invariant-loop-unit : goal.invariant-loop-unit
invariant-loop-unit l = key_of l.rest ++ reverse l.units.items ≡ key_of l.part ++ reverse l.initial.units.items

abbrev pub decreases-loop-unit : goal.decreases-loop-unit
decreases-loop-unit l = length l.rest
