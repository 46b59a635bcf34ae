use Rattle.std.proofs.Common.{subst}
use Rattle.sb_call.specs.declared.arguments.Arg.TheVariants as arg
use Rattle.sb_cover.specs.Choices.{Decides}
use Rattle.sb_cover.specs.Pruning.{is_true, IsLabel}
use Rattle.sb_cover.proofs.NumberPickLemmas.{number_decides, number_new, number_old}
use Rattle.sb_cover.proofs.number_picking.pick.Goals as goal

pub returns-then-not-is_new : goal.returns-then-not-is_new
returns-then-not-is_new c =
    let label = c.in_ok-label.label in
    let labelled : IsLabel (is_true c.in_ok-truths.truths.items) c.args.questions.now label =
    subst (λ l. IsLabel (is_true l) c.args.questions.now label) c.deref.ensures.value c.in_ok-label.ensures in
    let decides : Decides c.args.conds.now c.args.questions.now (arg.Num c.args.number) label =
    number_decides c.args.conds.now c.args.needed.now c.in_ok-truths.truths.items c.args.questions.now c.args.number label c.requires c.in_ok-truths.ensures labelled in
    number_old c.args.conds.now c.args.questions.now c.args.number c.args.picked.now.values.items c.args.picked.now.labels.keys c.note_label.new.labels.keys label c.in_ok-is_new.is_new decides
    c.in_ok-is_new.ensures c.if-not-is_new.true

pub returns : goal.returns
returns c =
    let label = c.in_ok-label.label in
    let labelled : IsLabel (is_true c.in_ok-truths.truths.items) c.args.questions.now label =
    subst (λ l. IsLabel (is_true l) c.args.questions.now label) c.deref.ensures.value c.in_ok-label.ensures in
    let decides : Decides c.args.conds.now c.args.questions.now (arg.Num c.args.number) label =
    number_decides c.args.conds.now c.args.needed.now c.in_ok-truths.truths.items c.args.questions.now c.args.number label c.requires c.in_ok-truths.ensures labelled in
    number_new c.args.conds.now c.args.questions.now c.args.number c.args.picked.now.values.items c.push.new.self.items c.args.picked.now.labels.keys c.note_label.new.labels.keys label
    c.in_ok-is_new.is_new decides c.in_ok-is_new.ensures c.if-not-is_new.false c.in_ok-push.ensures.items
