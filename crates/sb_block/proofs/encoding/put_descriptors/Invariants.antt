use Rattle.std.proofs.Common.{◌≡◌, ◌≤◌, ◌+◌, ◌++◌, length}
use Rattle.sb_block.specs.Blocks.{contents_of, descriptors_of}
use Rattle.sb_block.proofs.encoding.put_descriptors.Given as goal

abbrev pub invariant-loop-kind : goal.invariant-loop-kind
invariant-loop-kind l =
    (l.words ++ descriptors_of l.offset l.kinds l.args
    ≡ l.initial.words ++ descriptors_of l.initial.offset l.initial.kinds l.initial.args)
    × (length l.words + length l.args ≤ 64)
    × (l.offset + length (contents_of l.args) ≤ 64)

abbrev pub decreases-loop-kind : goal.decreases-loop-kind
decreases-loop-kind l = length l.kinds
