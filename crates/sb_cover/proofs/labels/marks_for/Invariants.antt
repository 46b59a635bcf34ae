use Rattle.std.proofs.Common.{◌≡◌, ◌++◌, [], ℕ, List, drop, length}
use Rattle.sb_cover.specs.Pruning.{is_true, marks_by, marks_in, ArePruned}
use Rattle.sb_cover.proofs.labels.marks_for.Given as goal

abbrev pub invariant-loop-rule : goal.invariant-loop-rule
invariant-loop-rule l = record {
  count : length l.marks.items ≡ l.rule-index;
  pruned : (more : List ℕ)
      → ArePruned l.depth l.decided.items (marks_by (is_true l.truths) (drop l.rule-index l.rules)) (marks_in more) (drop l.rule-index l.rules)
      → ArePruned l.depth [] (marks_by (is_true l.truths) l.rules) (marks_in (l.marks.items ++ more)) l.rules;
}
