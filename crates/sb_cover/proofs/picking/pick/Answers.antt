use Rattle.std.proofs.Common.{◌≡◌, ◌∙◌, ◌∷◌, true, subst, sym}
use Rattle.sb_cover.specs.Modes.{is_accepting}
use Rattle.sb_cover.specs.Pruning.{is_true, IsLabel}
use Rattle.sb_cover.proofs.PickLemmas.{picked_new, picked_old}
use Rattle.sb_cover.proofs.picking.pick.Goals as goal

pub returns-then-not-is_new-clause-picked : goal.returns-then-not-is_new-clause-picked
returns-then-not-is_new-clause-picked c =
    let table = c.args.table.now in
    let label = c.in_ok-label.label in
    let whole : c.numbers.result.now ≡ c.in-Some.mode.now ∷ c.in-Some.positions.now = c.in-Some.ensures.cases.0 in
    let accepts : is_accepting c.in-Some.mode.now ≡ true = sym c.is_accepting.ensures ∙ c.if-not-is_accepting.false in
    let labelled : IsLabel (is_true c.in_ok-truths.truths.items) c.args.questions.now label =
    subst (λ l. IsLabel (is_true l) c.args.questions.now label) c.deref.ensures.value c.in_ok-label.ensures in
    picked_old table.conds.items table.patterns.items c.args.questions.now c.args.word.now c.args.state.now c.numbers.result.now c.in-Some.positions.now c.in-Some.mode.now
    c.args.picked.now.values.items c.args.picked.now.labels.keys c.note_label.new.labels.keys c.in_ok-truths.truths.items label c.in_ok-is_new.is_new c.numbers.ensures whole accepts
    c.in_ok-truths.ensures labelled c.in_ok-is_new.ensures c.if-not-is_new.true

pub returns-clause-picked : goal.returns-clause-picked
returns-clause-picked c =
    let table = c.args.table.now in
    let label = c.in_ok-label.label in
    let whole : c.numbers.result.now ≡ c.in-Some.mode.now ∷ c.in-Some.positions.now = c.in-Some.ensures.cases.0 in
    let accepts : is_accepting c.in-Some.mode.now ≡ true = sym c.is_accepting.ensures ∙ c.if-not-is_accepting.false in
    let labelled : IsLabel (is_true c.in_ok-truths.truths.items) c.args.questions.now label =
    subst (λ l. IsLabel (is_true l) c.args.questions.now label) c.deref.ensures.value c.in_ok-label.ensures in
    picked_new table.conds.items table.patterns.items c.args.questions.now c.args.word.now c.args.state.now c.numbers.result.now c.in-Some.positions.now c.in-Some.mode.now
    c.args.picked.now.values.items c.push.new.self.items c.args.picked.now.labels.keys c.note_label.new.labels.keys c.in_ok-truths.truths.items label c.in_ok-value.value c.in_ok-is_new.is_new
    c.numbers.ensures whole accepts c.in_ok-truths.ensures labelled c.in_ok-is_new.ensures c.if-not-is_new.false c.in_ok-push.ensures.items c.in_ok-value.ensures.in_place
