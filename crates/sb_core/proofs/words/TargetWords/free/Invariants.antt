use Rattle.std.proofs.Common.{◌≡◌}
use Rattle.sb_core.specs.Words.{free_channels}
use Rattle.sb_core.proofs.words.TargetWords.free.Given as goal

-- the channels before this one
abbrev pub invariant-loop-channel : goal.invariant-loop-channel
invariant-loop-channel l = l.words.items ≡ free_channels l._channel
