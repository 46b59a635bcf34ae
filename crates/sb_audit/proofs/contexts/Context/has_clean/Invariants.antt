use Rattle.std.proofs.Common.{◌≡◌}
use Rattle.sb_actor.specs.Places.{clean_upto}
use Rattle.sb_actor.specs.ThreadTable.{has_clean}
use Rattle.sb_audit.proofs.contexts.Context.has_clean.Given as goal

-- the channels before this one
abbrev pub invariant-loop-channel : goal.invariant-loop-channel
invariant-loop-channel l = l.some ≡ has_clean (clean_upto l.self.script l.target l.channel)
