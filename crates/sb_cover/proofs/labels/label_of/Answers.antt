use Rattle.std.proofs.Common.{◌≡◌, ◌∙◌, ◌++◌, [], append-nil, ap, length, subst, sym}
use Rattle.std.proofs.lemmas.List.{drop_all}
use Rattle.sb_cover.specs.Pruning.{is_true, marks_by, marks_in, DecideAlike, IsLabel}
use Rattle.sb_cover.proofs.LabelLemmas.{label_one}
use Rattle.sb_cover.proofs.labels.label_of.Goals as goal

pub loop-question-preserved : goal.loop-question-preserved
loop-question-preserved c = λ more rest.
    let marks = c.in_ok-marks.marks.items in
    let put : c.extend_from_slice.new.self.items ≡ c.loop-question.numbers.items ++ marks =
    c.in_ok-extend_from_slice.ensures.items ∙ ap (λ l. c.loop-question.numbers.items ++ l) c.deref-in-loop-question.ensures.value in
    subst (λ l. IsLabel (is_true c.args.truths.now) c.args.questions.now (l ++ more)) (sym put)
    (label_one (is_true c.args.truths.now) c.args.questions.now c.loop-question.question-index c.question-item.result c.loop-question.numbers.items marks more c.loop-question-test.true
    c.question-item.is (c.in_ok-marks.ensures.count ∙ ap length c.deref.ensures)
    (subst (λ l. DecideAlike c.question-item.result.depth l (marks_by (is_true c.args.truths.now) l) (marks_in (marks ++ more))) c.deref.ensures (c.in_ok-marks.ensures.alike more))
    c.loop-question.invariant rest)

pub returns : goal.returns
returns c =
    let all = drop_all c.loop-question.question-index c.args.questions.now c.loop-question-test.false in
    let whole = c.loop-question.invariant [] (subst (λ l. IsLabel (is_true c.args.truths.now) l []) (sym all) tt) in
    subst (IsLabel (is_true c.args.truths.now) c.args.questions.now) (append-nil c.loop-question.numbers.items ∙ sym c.new.ensures) whole
