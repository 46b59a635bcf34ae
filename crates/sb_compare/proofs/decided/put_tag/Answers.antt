use Rattle.std.specs.List.{list_all}
use Rattle.std.specs.Prelude.{IfSome}
use Rattle.std.proofs.Common.{◌≡◌, ◌∙◌, ◌∷◌, ◌&&◌, [], true, ap, subst}
use Rattle.sb_cover.specs.Choices.{is_shown_arg}
use Rattle.sb_rule.specs.WellMade.{is_well_made}
use Rattle.sb_compare.specs.Candidates.{verdicts}
use Rattle.sb_compare.specs.Decided.{AreDecidedPut}
use Rattle.sb_compare.specs.ShownCalls.{AreShortest}
use Rattle.sb_compare.proofs.decided.put_tag.Goals as goal

pub returns-clause-all : goal.returns-clause-all
returns-clause-all c =
    let tag = c.args.tag in
    let policy = c.args.policy.now in
    let calls = c.in-Some.calls in
    let policies = c.deref.result.now in
    let same : policies ≡ policy ∷ [] = c.deref.ensures.value ∙ c.in_ok-policies.ensures in
    let are : AreShortest tag (policy ∷ []) calls.classes.keys calls.calls.items =
    subst (λ p. AreShortest tag p calls.classes.keys calls.calls.items) same
    (subst (λ o. IfSome o (λ s. AreShortest tag policies s.classes.keys s.calls.items)) c.in-Some.is c.in_ok-calls.ensures.all) in
    let made : list_all is_well_made policies ≡ true = ap (list_all is_well_made) same ∙ (λ i. c.requires i && true) in
    let written : list_all (list_all is_shown_arg) calls.calls.items ≡ true =
    subst (λ o. IfSome o (λ s. list_all is_well_made policies ≡ true → list_all (list_all is_shown_arg) s.calls.items ≡ true)) c.in-Some.is c.in_ok-calls.ensures.written made in
    let all : c.deref-3.result.now ≡ verdicts tag policy.rules = c.deref-3.ensures.value ∙ c.in_ok-all.ensures ∙ ap (verdicts tag) c.deref-2.ensures in
    subst (λ v. AreDecidedPut tag policy v c.args.list.now c.put_verdicts.new.list) all (c.in_ok-put_verdicts.ensures policy are written)
