use Rattle.std.proofs.Common.{[], ℕ, Bool, drop}
use Rattle.sb_cover.specs.Pruning.{marks_by, AgreeWhereNeeded, ArePruned, AreSure, StayNeeded}
use Rattle.sb_cover.proofs.pruning.note_rules.Given as goal

abbrev pub invariant-loop-rule : goal.invariant-loop-rule
invariant-loop-rule l = record {
  stay : StayNeeded l.fn.needed.items l.needed.items;
  pruned : (f g : ℕ → Bool) → AreSure l.signs.fails.items l.signs.holds.items f → AgreeWhereNeeded l.needed.items f g
      → ArePruned l.depth l.decided.items (marks_by f (drop l.rule-index l.rules)) (marks_by g (drop l.rule-index l.rules)) (drop l.rule-index l.rules)
      → ArePruned l.depth [] (marks_by f l.rules) (marks_by g l.rules) l.rules;
}
