use Rattle.std.proofs.Common.{◌≡◌, ◌+◌, length}
use Rattle.sb_link.specs.Answers.{resolved_from}
use Rattle.sb_link.proofs.Resolved.{after}
use Rattle.sb_link.proofs.stops.resolve_from.Given as goal

abbrev pub invariant-loop-kind : goal.invariant-loop-kind
invariant-loop-kind l =
    (l.parameter + length l.kinds ≡ length l.initial.kinds)
    × (after l.resolved (resolved_from l.links l.parameter l.kinds l.args) ≡ resolved_from l.links 0 l.initial.kinds l.initial.args)

abbrev pub decreases-loop-kind : goal.decreases-loop-kind
decreases-loop-kind l = length l.kinds
