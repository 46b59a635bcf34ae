use Rattle.std.proofs.Common.{◌++◌, List, drop}
use Rattle.sb_cover.specs.Calls.{AllSplit, AreLeft}
use Rattle.sb_cover.specs.declared.open_rules.OpenQuestion.{OpenQuestion}
use Rattle.sb_cover.proofs.residuals.questions_left.Given as goal

abbrev pub invariant-loop-question : goal.invariant-loop-question
invariant-loop-question l = record {
  left : (more : List OpenQuestion) → AreLeft (drop l.question-index l.questions) l.label more → AreLeft l.questions l.fn.label (l.left ++ more);
  split : AllSplit l.conds l.param l.left;
}
