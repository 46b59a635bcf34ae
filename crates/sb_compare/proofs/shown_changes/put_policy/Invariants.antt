use Rattle.std.proofs.Common.{drop}
use Rattle.sb_compare.proofs.Walks.{AreAllSoFar}
use Rattle.sb_compare.proofs.shown_changes.put_policy.Given as goal

abbrev pub invariant-loop-tag : goal.invariant-loop-tag
invariant-loop-tag l = AreAllSoFar l.old l.new l.tag-items (drop l.tag-index l.tag-items) l.fn.shown l.shown
