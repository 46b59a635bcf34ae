use Rattle.std.proofs.Common.{◌≡◌, drop}
use Rattle.sb_names.specs.Keys.{key_of}
use Rattle.sb_names.specs.Hashes.{hash_from}
use Rattle.sb_names.proofs.keys.hash_of.Given as goal

abbrev pub invariant-loop-unit : goal.invariant-loop-unit
invariant-loop-unit l = hash_from l.hash (key_of (drop l.unit-index l.part)) ≡ hash_from l.initial.hash (key_of l.part)
