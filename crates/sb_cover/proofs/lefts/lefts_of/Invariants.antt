use Rattle.sb_cover.specs.Lefts.{AreLefts}
use Rattle.sb_cover.proofs.lefts.lefts_of.Given as goal

abbrev pub invariant-loop-label : goal.invariant-loop-label
invariant-loop-label l = AreLefts l.conds l.param l.questions l.labels l.label-index l.lists.items l.places.items
