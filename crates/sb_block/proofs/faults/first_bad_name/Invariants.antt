use Rattle.std.proofs.Common.{◌≡◌, ◌+◌, ◌≤◌, length}
use Rattle.std.specs.Option.{option_map}
use Rattle.sb_block.specs.Faults.{first_bad_name}
use Rattle.sb_block.proofs.faults.first_bad_name.Given as goal

abbrev pub invariant-loop-kind : goal.invariant-loop-kind
invariant-loop-kind l =
    (option_map (λ n. n + l.at) (first_bad_name l.kinds l.descriptors l.words)
    ≡ first_bad_name l.initial.kinds l.initial.descriptors l.words)
    × (l.at + length l.descriptors ≤ 9)

abbrev pub decreases-loop-kind : goal.decreases-loop-kind
decreases-loop-kind l = length l.kinds
