use Rattle.std.specs.Prelude.{IfSome}
use Rattle.std.proofs.Common.{◌≡◌, ◌<◌, ℕ, length, subst, sym}
use Rattle.sb_explore.specs.Exploring.{list_at, AreByLength, AreFound, AllReached}
use Rattle.sb_cover.specs.Choices.{ArePicked}
use Rattle.sb_cover.specs.TextMachines.{LeadsTo, StandsFor}
use Rattle.sb_cover.proofs.PickLemmas.{picked_stand_for}
use Rattle.sb_cover.proofs.text_covers.text_choices.Goals as goal

pub returns-clause-all : goal.returns-clause-all
returns-clause-all c =
    let conds = c.args.table.now.conds.items in
    let patterns = c.args.table.now.patterns.items in
    let questions = c.args.questions.now in
    let leads = LeadsTo conds patterns questions c.args.first in
    let stands = StandsFor conds patterns questions c.args.first in
    let found = c.in-Some.found in
    let each : AreFound leads found.words.items found.states.keys = subst (λ o. IfSome o (λ f. AreFound leads f.words.items f.states.keys)) c.in-Some.is c.in_ok-found.ensures.each in
    let order : AreByLength found.words.items = subst (λ o. IfSome o (λ f. AreByLength f.words.items)) c.in-Some.is c.in_ok-found.ensures.order in
    let all : AllReached stands found.words.items found.states.keys = subst (λ o. IfSome o (λ f. AllReached stands f.words.items f.states.keys)) c.in-Some.is c.in_ok-found.ensures.all in
    picked_stand_for conds patterns questions c.args.first found.words.items c.deref.result.now found.states.keys c.as_slice.result.now c.in_ok-picked.picked.values.items
    c.in_ok-picked.picked.labels.keys c.deref.ensures.value c.as_slice.ensures.keys each order all (c.in_ok-picked.ensures.all c.args.first)
