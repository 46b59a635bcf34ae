use Rattle.std.proofs.Common.{◌≡◌, ◌≤◌, ◌+◌, length}
use Rattle.std.specs.List.{list_all}
use Rattle.sb_block.specs.Blocks.{contents_of}
use Rattle.sb_block.specs.Blocks.{has_units}
use Rattle.sb_block.proofs.encoding.contents_len.Given as goal

abbrev pub invariant-loop-arg : goal.invariant-loop-arg
invariant-loop-arg l =
    (l.len + length (contents_of l.args) ≡ length (contents_of l.initial.args))
    × (length (contents_of l.initial.args) ≤ 64)
    × (list_all has_units l.args ≡ list_all has_units l.initial.args)

abbrev pub decreases-loop-arg : goal.decreases-loop-arg
decreases-loop-arg l = length l.args
