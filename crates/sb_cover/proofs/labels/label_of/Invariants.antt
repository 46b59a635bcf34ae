use Rattle.std.proofs.Common.{◌++◌, ℕ, List, drop}
use Rattle.sb_cover.specs.Pruning.{is_true, IsLabel}
use Rattle.sb_cover.proofs.labels.label_of.Given as goal

abbrev pub invariant-loop-question : goal.invariant-loop-question
invariant-loop-question l = (more : List ℕ) → IsLabel (is_true l.truths) (drop l.question-index l.questions) more → IsLabel (is_true l.truths) l.questions (l.numbers.items ++ more)
