use Rattle.sb_index.proofs.MarkLemmas.{none_up}
use Rattle.sb_index.proofs.marks.Marks.new.Goals as goal

pub returns-clause-fresh : goal.returns-clause-fresh
returns-clause-fresh c n k h = (
  c.in_ok-points.ensures.empty n k,
  none_up c.in_ok-begins.begins.items c.in_ok-begins.ensures.empty n k,
  none_up c.in_ok-ends.ends.items c.in_ok-ends.ensures.empty n k,
)
