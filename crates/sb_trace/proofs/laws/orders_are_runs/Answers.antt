use Rattle.sb_trace.proofs.Ordering.{orders_are_runs}
use Rattle.sb_trace.proofs.laws.orders_are_runs.Goals as goal

pub returns : goal.returns
returns c =
    orders_are_runs c.worlds_keep.ensures.start c.worlds_keep.ensures.step c.steps_are_folds.ensures.rounds c.steps_are_folds.ensures.there
    c.steps_are_folds.ensures.orders c.drains_settle.ensures
