use Rattle.std.proofs.Common.{◌≡◌, length}
use Rattle.sb_statements.specs.Soundness.{names_differ}
use Rattle.sb_statements.proofs.soundness.names_differ.Given as goal

abbrev pub invariant-loop-target : goal.invariant-loop-target
invariant-loop-target l = names_differ l.rest ≡ names_differ l.targets

abbrev pub decreases-loop-target : goal.decreases-loop-target
decreases-loop-target l = length l.rest
