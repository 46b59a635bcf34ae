use Rattle.std.proofs.Common.{length}
use Rattle.sb_opcode.proofs.RuleLemmas.{IsWithin}
use Rattle.sb_opcode.proofs.rules.after_rule.Given as goal

abbrev pub invariant-loop-acts : goal.invariant-loop-acts
invariant-loop-acts l = IsWithin l.words l.rest

abbrev pub decreases-loop-acts : goal.decreases-loop-acts
decreases-loop-acts l = length l.rest
