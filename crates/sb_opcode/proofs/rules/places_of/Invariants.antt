use Rattle.std.proofs.Common.{length}
use Rattle.sb_opcode.proofs.RuleLemmas.{IsSoFar}
use Rattle.sb_opcode.proofs.rules.places_of.Given as goal

abbrev pub invariant-loop-rest : goal.invariant-loop-rest
invariant-loop-rest l = IsSoFar l.words l.rest l.places.items

abbrev pub decreases-loop-rest : goal.decreases-loop-rest
decreases-loop-rest l = length l.rest
