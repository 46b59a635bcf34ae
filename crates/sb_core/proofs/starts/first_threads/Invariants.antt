use Rattle.std.proofs.Common.{◌≡◌}
use Rattle.sb_core.specs.Worlds.{start_threads}
use Rattle.sb_core.proofs.starts.first_threads.Given as goal

abbrev pub invariant-loop-target : goal.invariant-loop-target
invariant-loop-target l = l.threads.items ≡ start_threads l.script l.target
