use Rattle.std.proofs.Common.{◌≡◌}
use Rattle.sb_link.specs.Resolution.{resolve_within}
use Rattle.sb_link.proofs.resolving.resolve_within.Given as goal

abbrev pub invariant-loop-link : goal.invariant-loop-link
invariant-loop-link l = resolve_within l.steps l.links l.name ≡ resolve_within l.fn.steps l.links l.fn.name

abbrev pub decreases-loop-link : goal.decreases-loop-link
decreases-loop-link l = l.steps
