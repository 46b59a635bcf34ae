use Rattle.std.proofs.Common.{◌∙◌, ◌+◌, ap}
use Rattle.sb_index.proofs.TableLemmas.{slots_selected}
use Rattle.sb_index.proofs.tables.Table.new.Goals as goal

pub returns : goal.returns
returns c = (
  c.in_ok-sets.ensures.many ∙ ap (λ m. m + 1) c.len.ensures.is,
  c.requires.bounds,
  slots_selected c.args.rules.now c.args.tag c.args.feature c.args.bounds c.in_ok-marks.marks c.in_ok-sets.sets.items (c.len.result + 1)
      c.in_ok-marks.ensures.marked (ap (λ m. m + 1) c.len.ensures.is) c.in_ok-sets.ensures.many c.in_ok-sets.ensures.marked,
)
