use Rattle.std.proofs.Common.{◌≡◌, length}
use Rattle.sb_names.specs.Keys.{key_of}
use Rattle.sb_names.specs.Maps.{is_key}
use Rattle.sb_names.proofs.keys.is_key.Given as goal

abbrev pub invariant-loop-unit : goal.invariant-loop-unit
invariant-loop-unit l = is_key (key_of l.name) l.key ≡ is_key (key_of l.initial.name) l.initial.key

abbrev pub decreases-loop-unit : goal.decreases-loop-unit
decreases-loop-unit l = length l.key
