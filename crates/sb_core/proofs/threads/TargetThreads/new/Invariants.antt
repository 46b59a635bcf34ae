use Rattle.std.proofs.Common.{◌≡◌}
use Rattle.sb_core.specs.Worlds.{first_runs}
use Rattle.sb_core.proofs.threads.TargetThreads.new.Given as goal

-- the threads before this one
abbrev pub invariant-loop-thread : goal.invariant-loop-thread
invariant-loop-thread l = l.runs.items ≡ first_runs l.script l.target l.thread
