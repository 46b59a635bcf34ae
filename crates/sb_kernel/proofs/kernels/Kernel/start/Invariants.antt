use Rattle.std.proofs.Common.{◌≡◌, ◌+◌, length, true}
use Rattle.std.specs.List.{list_all}
use Rattle.sb_kernel.specs.Kept.{MadeAtMost}
use Rattle.sb_kernel.specs.Openings.{is_named, opened, opened_from}
use Rattle.sb_kernel.proofs.kernels.Kernel.start.Given as goal

-- what is left is placed after what was, each object counts once, and all are named
abbrev pub invariant-loop-line : goal.invariant-loop-line
invariant-loop-line l =
    (opened_from l.at l.kernel l.rest ≡ opened l.initial.rest) × MadeAtMost l.at l.kernel
    × (l.at + length l.rest ≡ length l.initial.rest) × (list_all is_named l.rest ≡ true)

abbrev pub decreases-loop-line : goal.decreases-loop-line
decreases-loop-line l = length l.rest
