use Rattle.std.proofs.Common.{◌≡◌}
use Rattle.sb_core.specs.Worlds.{first_workers}
use Rattle.sb_core.proofs.starts.first_workers.Given as goal

abbrev pub invariant-loop-target : goal.invariant-loop-target
invariant-loop-target l = l.workers.items ≡ first_workers l.script.targets l.target
