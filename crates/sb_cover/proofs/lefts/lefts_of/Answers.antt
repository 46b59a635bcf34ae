use Rattle.std.proofs.Common.{◌≡◌, ◌∙◌, [], subst, sym}
use Rattle.std.proofs.lemmas.List.{get_or_read}
use Rattle.sb_explore.specs.Exploring.{list_at}
use Rattle.sb_cover.specs.Calls.{AreLeft}
use Rattle.sb_cover.proofs.LeftLemmas.{lefts_one}
use Rattle.sb_cover.proofs.lefts.lefts_of.Goals as goal

pub loop-label-preserved : goal.loop-label-preserved
loop-label-preserved c =
    let labels = c.args.labels.now in
    let label = c.numbers.result.now in
    let read : label ≡ list_at labels c.loop-label.label-index =
    c.numbers.ensures ∙ get_or_read labels c.loop-label.label-index c.label-item.result c.loop-label-test.true c.label-item.is [] in
    lefts_one c.args.conds.now c.args.param c.args.questions.now labels c.loop-label.label-index c.loop-label.lists.items c.place_of.new.lists.items c.loop-label.places.items
    c.push.new.self.items c.in_ok-left.left c.in_ok-place.place label read c.in_ok-left.ensures.left c.in_ok-left.ensures.split c.in_ok-place.ensures c.in_ok-push.ensures.items
    c.loop-label.invariant
