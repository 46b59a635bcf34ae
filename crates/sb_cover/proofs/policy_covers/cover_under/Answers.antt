use Rattle.std.specs.List.{list_all}
use Rattle.std.proofs.Common.{◌≡◌, ◌∙◌, true, ap, subst}
use Rattle.sb_cover.specs.Choices.{is_shown_arg}
use Rattle.sb_cover.specs.Covers.{IsCover}
use Rattle.sb_cover.specs.PlainQuestions.{is_plain_question}
use Rattle.sb_cover.specs.PolicyCovers.{questions_of, IsCoverUnder}
use Rattle.sb_rule.specs.WellMade.{is_well_made}
use Rattle.sb_cover.proofs.ParamLemmas.{if_some}
use Rattle.sb_cover.proofs.PlainLemmas.{plain_questions}
use Rattle.sb_cover.proofs.PolicyLemmas.{covers_under}
use Rattle.sb_cover.proofs.policy_covers.cover_under.Goals as goal

pub returns-clause-all : goal.returns-clause-all
returns-clause-all c =
    let tag = c.args.tag in
    let policies = c.args.policies.now in
    let same : c.deref.result.now ≡ questions_of tag policies = c.deref.ensures.value ∙ c.in_ok-questions.ensures in
    if_some c.in_ok-calls.calls (λ calls. IsCover tag c.deref.result.now calls.items) (λ calls. IsCoverUnder tag policies calls.items)
    (λ calls is. covers_under c.answers_decide.ensures c.not_longer_is_as_short.ensures tag policies calls.items (subst (λ q. IsCover tag q calls.items) same is)) c.in_ok-calls.ensures.all

pub returns-clause-shown : goal.returns-clause-shown
returns-clause-shown c =
    let tag = c.args.tag in
    let policies = c.args.policies.now in
    let same : c.deref.result.now ≡ questions_of tag policies = c.deref.ensures.value ∙ c.in_ok-questions.ensures in
    if_some c.in_ok-calls.calls (λ calls. list_all is_plain_question c.deref.result.now ≡ true → list_all (list_all is_shown_arg) calls.items ≡ true)
    (λ calls. list_all is_well_made policies ≡ true → list_all (list_all is_shown_arg) calls.items ≡ true)
    (λ calls shown made. shown (ap (list_all is_plain_question) same ∙ plain_questions c.walks_find_pairs.ensures tag policies made)) c.in_ok-calls.ensures.shown
