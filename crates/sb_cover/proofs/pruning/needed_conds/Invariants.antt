use Rattle.std.proofs.Common.{ℕ, Bool, drop}
use Rattle.sb_cover.specs.Pruning.{AgreeWhereNeeded, AllDecideAlike, AreSure}
use Rattle.sb_cover.proofs.pruning.needed_conds.Given as goal

abbrev pub invariant-loop-question : goal.invariant-loop-question
invariant-loop-question l = (f g : ℕ → Bool) → AreSure l.signs.fails.items l.signs.holds.items f → AgreeWhereNeeded l.needed.items f g
    → AllDecideAlike f g (drop l.question-index l.questions) → AllDecideAlike f g l.questions
