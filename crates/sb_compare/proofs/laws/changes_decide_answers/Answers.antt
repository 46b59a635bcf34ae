use Rattle.sb_compare.proofs.AnswerLemmas.{changes_decide_answers}
use Rattle.sb_compare.proofs.laws.changes_decide_answers.Goals as goal

pub returns : goal.returns
returns c = changes_decide_answers
