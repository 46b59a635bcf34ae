use Rattle.sb_tables.specs.Answering.{CanAnswer}
use Rattle.sb_tables.proofs.answering.answer_copies.Given as goal

abbrev pub invariant-loop-number : goal.invariant-loop-number
invariant-loop-number g l = CanAnswer (g.J.Judge.policies l.judge) l.book
