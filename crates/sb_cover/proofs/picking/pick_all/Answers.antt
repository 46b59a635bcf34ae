use Rattle.std.proofs.Common.{◌≡◌, ◌∙◌, ◌≤◌, ◌<◌, [], ap, arith, length, subst, sym}
use Rattle.std.proofs.lemmas.List.{get_or_read}
use Rattle.sb_explore.specs.Exploring.{list_at}
use Rattle.sb_cover.specs.Choices.{ArePicked, IsPicked}
use Rattle.sb_cover.specs.TextMachines.{LeadsTo}
use Rattle.sb_cover.proofs.PickLemmas.{picked_all, picked_more}
use Rattle.sb_cover.proofs.picking.pick_all.Goals as goal

pub loop-place-preserved : goal.loop-place-preserved
loop-place-preserved c =
    let conds = c.args.table.now.conds.items in
    let patterns = c.args.table.now.patterns.items in
    let questions = c.args.questions.now in
    let place = c.loop-place.place in
    let low : place < length c.args.states.now = c.loop-place-test.true in
    let low_word : place < length c.args.words.now = omega (arith, c.requires, low) in
    let state : c.index-states-place.result ≡ list_at c.args.states.now place = get_or_read c.args.states.now place c.index-states-place.result low c.index-states-place.is [] in
    let word : c.as_units.result.now ≡ list_at c.args.words.now place =
    c.as_units.ensures ∙ get_or_read c.args.words.now place c.index-words-place.result low_word c.index-words-place.is [] in
    let picked : IsPicked conds patterns questions (list_at c.args.words.now place) (list_at c.args.states.now place) c.loop-place.picked.values.items c.loop-place.picked.labels.keys
    c.pick.new.picked.values.items c.pick.new.picked.labels.keys =
    subst (λ w. IsPicked conds patterns questions w (list_at c.args.states.now place) c.loop-place.picked.values.items c.loop-place.picked.labels.keys c.pick.new.picked.values.items
    c.pick.new.picked.labels.keys) word
    (subst (λ s. IsPicked conds patterns questions c.as_units.result.now s c.loop-place.picked.values.items c.loop-place.picked.labels.keys c.pick.new.picked.values.items
    c.pick.new.picked.labels.keys) state c.in_ok-pick.ensures.picked) in
    record {
      all = λ first order leads.
          picked_more conds patterns questions first c.args.words.now c.args.states.now place c.loop-place.picked.values.items c.loop-place.picked.labels.keys c.pick.new.picked.values.items
          c.pick.new.picked.labels.keys order low_word (leads place low) picked (c.loop-place.invariant.all first order leads);
      shown = λ plain. c.in_ok-pick.ensures.shown plain (c.loop-place.invariant.shown plain);
    }

pub returns-clause-all : goal.returns-clause-all
returns-clause-all c = λ first order leads.
    let conds = c.args.table.now.conds.items in
    let patterns = c.args.table.now.patterns.items in
    picked_all conds patterns c.args.questions.now first c.args.words.now c.args.states.now c.loop-place.place (length c.args.states.now) c.loop-place.picked.values.items
    c.loop-place.picked.labels.keys c.loop-place-test.false (omega (arith, c.requires)) (c.loop-place.invariant.all first order leads)
