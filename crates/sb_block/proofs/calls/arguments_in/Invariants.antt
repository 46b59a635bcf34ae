use Rattle.std.proofs.Common.{◌≡◌, take, map}
use Rattle.sb_block.specs.Calls.{argument_in}
use Rattle.sb_block.proofs.calls.arguments_in.Given as goal

abbrev pub invariant-loop-descriptor : goal.invariant-loop-descriptor
invariant-loop-descriptor l =
    l.args ≡ map (argument_in l.words) (take l.descriptor-index l.descriptors)
