use Rattle.sb_index.proofs.MarkLemmas.{set_fresh}
use Rattle.sb_index.proofs.marks.Marks.put_point.Goals as goal

pub returns-clause-fresh : goal.returns-clause-fresh
returns-clause-fresh c from less fresh n k h = (
  set_fresh c.args.self.now.points.items c.put.new.sets.items c.args.slot c.args.number from c.put.ensures.put less n k h (fresh n k h).0,
  (fresh n k h).1,
  (fresh n k h).2,
)
