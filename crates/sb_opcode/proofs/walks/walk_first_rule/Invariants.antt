use Rattle.std.proofs.Common.{length}
use Rattle.sb_opcode.specs.Unpacking.{opcodes_of}
use Rattle.sb_opcode.proofs.RuleLemmas.{IsPast}
use Rattle.sb_opcode.proofs.walks.walk_first_rule.Given as goal

abbrev pub invariant-loop-holds : goal.invariant-loop-holds
invariant-loop-holds l = IsPast l.args l.words l.rest

abbrev pub decreases-loop-holds : goal.decreases-loop-holds
decreases-loop-holds l = length (opcodes_of l.rest)
