use Rattle.std.proofs.Common.{drop}
use Rattle.sb_compare.proofs.Walks.{AreAllDecidedSoFar}
use Rattle.sb_compare.proofs.decided.decided_calls.Given as goal

abbrev pub invariant-loop-tag : goal.invariant-loop-tag
invariant-loop-tag l = AreAllDecidedSoFar l.policy l.tag-items (drop l.tag-index l.tag-items) l.list
