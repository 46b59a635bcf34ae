use Rattle.std.specs.List.{list_all}
use Rattle.std.specs.Prelude.{IfSome}
use Rattle.std.proofs.Common.{◌≡◌, ◌∙◌, ◌++◌, ◌∷◌, ◌+◌, [], true, ap, refl, subst, sym, take}
use Rattle.std.proofs.lemmas.List.{take_more}
use Rattle.sb_cover.specs.Opening.{AreOpened, AreUnread, AllOpened, AllUnread}
use Rattle.sb_cover.specs.PlainQuestions.{is_plain_question, is_plain_rule}
use Rattle.sb_cover.specs.declared.open_rules.OpenQuestion.{OpenQuestion}
use Rattle.sb_cover.proofs.OpeningLemmas.{questions_push, all_unread_push}
use Rattle.sb_cover.proofs.PlainLemmas.{element_passes}
use Rattle.sb_cover.proofs.opening.open_questions.Goals as goal

pub loop-question-preserved : goal.loop-question-preserved
loop-question-preserved c =
    let old = c.loop-question.conds.items in
    let new = c.rules_for.new.conds.items in
    let question = c.question-item.result in
    let rules = c.in-Some.rules in
    let rest : OpenQuestion = record { depth = question.depth; rules = rules } in
    let put : c.push.new.self ≡ c.loop-question.opened ++ rest ∷ [] = c.in_ok-push.ensures.ok in
    let opened : AreOpened new c.args.tag question.rules question.is_cut question.rules rules =
    subst (λ l. AreOpened new c.args.tag l question.is_cut l rules) c.deref.ensures
    (subst (λ o. IfSome o (AreOpened new c.args.tag c.deref.result.now question.is_cut c.deref.result.now)) c.in-Some.is c.in_ok-rules.ensures.rules) in
    let unread : AreUnread rules = subst (λ o. IfSome o AreUnread) c.in-Some.is c.in_ok-rules.ensures.unread in
    let more : take (c.loop-question.question-index + 1) c.args.questions.now ≡ take c.loop-question.question-index c.args.questions.now ++ question ∷ [] =
    take_more c.args.questions.now c.loop-question.question-index question c.loop-question-test.true
    ∙ ap (λ q. take c.loop-question.question-index c.args.questions.now ++ q ∷ []) (sym c.question-item.is) in
    record {
      rules = subst (AllOpened new c.args.tag (take (c.loop-question.question-index + 1) c.args.questions.now)) (sym put)
          (subst (λ l. AllOpened new c.args.tag l (c.loop-question.opened ++ rest ∷ [])) (sym more)
          (questions_push old new c.args.tag (take c.loop-question.question-index c.args.questions.now) c.loop-question.opened question rest c.in_ok-rules.ensures.more refl opened
          c.loop-question.invariant.rules));
      unread = subst AllUnread (sym put) (all_unread_push c.loop-question.opened rest c.loop-question.invariant.unread unread);
      plain = λ all before.
          let one : is_plain_question question ≡ true =
          element_passes is_plain_question c.args.questions.now c.loop-question.question-index question c.loop-question-test.true c.question-item.is all in
          c.in_ok-rules.ensures.plain (ap (list_all is_plain_rule) c.deref.ensures ∙ one) (c.loop-question.invariant.plain all before);
    }
