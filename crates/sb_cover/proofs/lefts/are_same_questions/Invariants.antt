use Rattle.std.proofs.Common.{◌≡◌, length}
use Rattle.sb_cover.proofs.lefts.are_same_questions.Given as goal

abbrev pub invariant-loop-question : goal.invariant-loop-question
invariant-loop-question l = l.a ≡ l.b → l.fn.a ≡ l.fn.b

abbrev pub decreases-loop-question : goal.decreases-loop-question
decreases-loop-question l = length l.a
