use Rattle.std.proofs.Common.{ℕ, take}
use Rattle.std.specs.List.{list_all}
use Rattle.sb_index.specs.Questions.{cond_may_pass}
use Rattle.sb_index.specs.Values.{AreAdmitted}
use Rattle.sb_index.specs.declared.questions.Question.TheVariants.{Within}
use Rattle.sb_index.proofs.values.values_of_all.Given as goal

abbrev pub invariant-loop-cond : goal.invariant-loop-cond
invariant-loop-cond l = (first : ℕ) (last : ℕ)
    → AreAdmitted l.all first last (list_all (cond_may_pass (Within l.feature first last)) (take l.cond-index l.conds))
