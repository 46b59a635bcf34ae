use Rattle.std.proofs.Common.{drop}
use Rattle.sb_compare.proofs.Walks.{AreComparedSoFar}
use Rattle.sb_compare.proofs.comparing.compared.Given as goal

abbrev pub invariant-loop-new : goal.invariant-loop-new
invariant-loop-new l = AreComparedSoFar l.olds l.news (drop l.new-index l.news) l.shown
