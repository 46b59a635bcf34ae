use Rattle.std.proofs.Common.{◌≡◌, ◌∙◌, ◌++◌, ◌∷◌, [], ℕ, Bool, append-nil, ap, drop, length, refl, subst, sym}
use Rattle.std.proofs.lemmas.List.{drop_all}
use Rattle.sb_cover.specs.Calls.{AllSplit, AreLeft, AreMarkedRules}
use Rattle.sb_cover.specs.declared.open_rules.OpenQuestion.{OpenQuestion}
use Rattle.sb_cover.proofs.ResidualLemmas.{left_one, all_split_push}
use Rattle.sb_cover.proofs.residuals.questions_left.Goals as goal

pub loop-question-preserved : goal.loop-question-preserved
loop-question-preserved c =
    let questions = c.args.questions.now in
    let question = c.question-item.result in
    let rules = c.in_ok-rules.rules in
    let label = c.loop-question.label.now in
    let rest : OpenQuestion = record { depth = question.depth; rules = rules } in
    let put : c.push.new.self ≡ c.loop-question.left ++ rest ∷ [] = c.in_ok-push.ensures.ok in
    let same : AreMarkedRules question.rules label rules = subst (λ l. AreMarkedRules l label rules) c.deref.ensures c.in_ok-rules.ensures.left in
    let cut : c.rest_after-label.result.now ≡ drop (length question.rules) label = c.rest_after-label.ensures ∙ ap (λ n. drop n label) c.len.ensures in
    record {
      left = λ more after.
          subst (λ l. AreLeft questions c.args.label.now (l ++ more)) (sym put)
          (left_one questions c.loop-question.question-index question rest c.loop-question.left more label c.rest_after-label.result.now c.args.label.now c.loop-question-test.true c.question-item.is
          refl same cut c.loop-question.invariant.left after);
      split = subst (AllSplit c.args.conds.now c.args.param) (sym put)
          (all_split_push c.args.conds.now c.args.param c.loop-question.left rest c.loop-question.invariant.split c.in_ok-rules.ensures.split);
    }

pub returns-clause-left : goal.returns-clause-left
returns-clause-left c =
    let all = drop_all c.loop-question.question-index c.args.questions.now c.loop-question-test.false in
    subst (AreLeft c.args.questions.now c.args.label.now) (append-nil c.loop-question.left)
    (c.loop-question.invariant.left [] (subst (λ l. AreLeft l c.loop-question.label.now []) (sym all) tt))
