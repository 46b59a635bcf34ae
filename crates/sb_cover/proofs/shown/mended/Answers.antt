use Rattle.std.proofs.Common.{◌≡◌, ◌∙◌, ◌++◌, ◌∷◌, [], ap, append_assoc, sym}
use Rattle.sb_cover.specs.Shown.{begins_pair, mended, unit_for}
use Rattle.sb_cover.proofs.ShownLemmas.{mended_step}
use Rattle.sb_cover.proofs.shown.mended.Goals as goal

pub loop-unit-preserved : goal.loop-unit-preserved
loop-unit-preserved c =
    let old = c.loop-unit.shown.items in
    let other = c.args.other in
    let follows = c.loop-unit.follows in
    let unit = c.in-Some.unit.now in
    let later = c.in-Some.later.now in
    let cases : c.loop-unit.units.now ≡ unit ∷ later = c.in-Some.ensures.cases.0 in
    let put : c.push.new.self.items ≡ old ++ unit_for other follows unit later ∷ [] = c.in_ok-push.ensures.items ∙ ap (λ u. old ++ u ∷ []) c.unit_for.ensures in
    (λ i. put i ++ mended other (c.begins_pair-follows.ensures i) later)
    ∙ append_assoc old (unit_for other follows unit later ∷ []) (mended other (begins_pair follows unit later) later)
    ∙ ap (λ l. old ++ l) (sym (mended_step other follows unit later) ∙ ap (mended other follows) (sym cases)) ∙ c.loop-unit.invariant
