use Rattle.sb_cover.specs.Choices.{AreNumbersPicked}
use Rattle.sb_cover.proofs.number_picking.pick_all.Given as goal

abbrev pub invariant-loop-number : goal.invariant-loop-number
invariant-loop-number l = AreNumbersPicked l.conds l.questions l.numbers l.number-index l.picked.values.items l.picked.labels.keys
