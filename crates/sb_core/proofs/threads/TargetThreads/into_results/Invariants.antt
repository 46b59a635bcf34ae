use Rattle.std.proofs.Common.{◌≡◌, map}
use Rattle.sb_core.proofs.threads.TargetThreads.into_results.Given as goal

-- the results of the threads so far
abbrev pub invariant-loop-run : goal.invariant-loop-run
invariant-loop-run l = l.results.items ≡ map (λ x. x.results) l.yielded
