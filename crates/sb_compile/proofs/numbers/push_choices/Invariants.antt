use Rattle.std.proofs.Common.{◌≡◌, ◌+◌, ◌≤◌, ◌++◌, length, map}
use Rattle.sb_opcode.specs.Opcodes as op
use Rattle.sb_opcode.specs.Options.{OR}
use Rattle.sb_compile.specs.Compiling.{opcode, closed}
use Rattle.sb_compile.proofs.numbers.push_choices.Given as goal

abbrev pub invariant-loop-number : goal.invariant-loop-number
invariant-loop-number l =
    (l.code ++ closed l.group.negated (map (λ k. opcode l.group.param OR (op.Num k)) l.rest)
    ≡ l.fn.code ++ closed l.group.negated (map (λ k. opcode l.group.param OR (op.Num k)) l.numbers))
    × (length l.code + length l.rest ≤ length l.fn.code + length l.numbers)

abbrev pub decreases-loop-number : goal.decreases-loop-number
decreases-loop-number l = length l.rest
