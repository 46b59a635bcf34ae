use Rattle.std.proofs.Common.{◌≡◌, length}
use Rattle.sb_core.specs.Threads.{unfinished_of}
use Rattle.sb_core.proofs.threads.TargetThreads.unfinished.Given as goal

-- the first unfinished thread of those that are left is that of all
abbrev pub invariant-loop-run : goal.invariant-loop-run
invariant-loop-run l = unfinished_of l.script l.rest ≡ unfinished_of l.script l.self

abbrev pub decreases-loop-run : goal.decreases-loop-run
decreases-loop-run l = length l.rest
