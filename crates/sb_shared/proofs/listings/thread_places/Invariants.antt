use Rattle.std.proofs.Common.{◌≡◌, ◌++◌, drop}
use Rattle.sb_shared.specs.Opening.{places_from, thread_places}
use Rattle.sb_shared.proofs.listings.thread_places.Given as goal

abbrev pub invariant-loop-target : goal.invariant-loop-target
invariant-loop-target l = l.places.items ++ places_from l.target (drop l.target l.script.targets) ≡ thread_places l.script.targets
