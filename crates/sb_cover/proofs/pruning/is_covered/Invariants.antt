use Rattle.std.proofs.Common.{drop}
use Rattle.sb_cover.specs.Pruning.{IsCovered}
use Rattle.sb_cover.proofs.pruning.is_covered.Given as goal

abbrev pub invariant-loop-conds : goal.invariant-loop-conds
invariant-loop-conds l = IsCovered l.left (drop l.conds-index l.decided) l.later → IsCovered l.depth l.decided l.later
