use Rattle.std.proofs.Common.{◌≡◌, length}
use Rattle.sb_core.specs.Threads.{first_unfinished}
use Rattle.sb_core.proofs.worlds.World.unfinished.Given as goal

abbrev pub invariant-loop-threads : goal.invariant-loop-threads
invariant-loop-threads l = first_unfinished l.script l.rest ≡ first_unfinished l.script l.self.threads

abbrev pub decreases-loop-threads : goal.decreases-loop-threads
decreases-loop-threads l = length l.rest
