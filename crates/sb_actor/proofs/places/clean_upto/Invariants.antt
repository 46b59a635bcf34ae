use Rattle.std.proofs.Common.{◌≡◌}
use Rattle.sb_actor.specs.Places.{clean_upto}
use Rattle.sb_actor.proofs.places.clean_upto.Given as goal

-- the channels before this one
abbrev pub invariant-loop-channel : goal.invariant-loop-channel
invariant-loop-channel l = l.clean.items ≡ clean_upto l.script l.target l.channel
