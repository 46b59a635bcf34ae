use Rattle.std.proofs.Common.{◌≡◌, ◌≤◌, ◌+◌, ◌++◌, length}
use Rattle.sb_block.specs.Blocks.{contents_of}
use Rattle.sb_block.proofs.encoding.put_contents.Given as goal

abbrev pub invariant-loop-arg : goal.invariant-loop-arg
invariant-loop-arg l =
    (l.words ++ contents_of l.args ≡ l.initial.words ++ contents_of l.initial.args)
    × (length l.words + length (contents_of l.args) ≤ 64)

abbrev pub decreases-loop-arg : goal.decreases-loop-arg
decreases-loop-arg l = length l.args
