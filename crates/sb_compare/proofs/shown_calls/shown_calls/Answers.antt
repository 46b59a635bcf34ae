use Rattle.std.specs.List.{list_all}
use Rattle.std.specs.Prelude.{IfSome}
use Rattle.std.proofs.Common.{◌≡◌, true, length, subst, arith}
use Rattle.sb_call.specs.Arguments.{fits}
use Rattle.sb_cover.specs.Choices.{is_shown_arg}
use Rattle.sb_cover.specs.PolicyCovers.{IsCoverUnder}
use Rattle.sb_rule.specs.WellMade.{is_well_made}
use Rattle.sb_compare.specs.Classes.{class_of}
use Rattle.sb_compare.specs.ShownCalls.{AreShortestSoFar}
use Rattle.sb_compare.proofs.ShownCallLemmas.{kept_pass, shortest_all}
use Rattle.sb_compare.proofs.shown_calls.shown_calls.Goals as goal

pub returns-clause-all : goal.returns-clause-all
returns-clause-all c =
    let tag = c.args.tag in
    let policies = c.args.policies.now in
    let seen = c.in-Some.calls.items in
    let classes = c.in_ok-shown.shown.classes.keys in
    let calls = c.in_ok-shown.shown.calls.items in
    let cover : IsCoverUnder tag policies seen = subst (λ o. IfSome o (λ calls. IsCoverUnder tag policies calls.items)) c.in-Some.is c.in_ok-calls.ensures.all in
    let fit : list_all (fits tag) seen ≡ true = subst (λ o. IfSome o (λ calls. list_all (fits tag) calls.items ≡ true)) c.in-Some.is c.in_ok-calls.ensures.fit in
    let so : AreShortestSoFar (class_of tag policies) seen (length seen) classes calls =
    subst (λ s. AreShortestSoFar (class_of tag policies) s (length s) classes calls) c.deref.ensures.value c.in_ok-shown.ensures in
    shortest_all tag policies seen (length seen) classes calls (omega arith) fit cover so

pub returns-clause-written : goal.returns-clause-written
returns-clause-written c = λ made.
    let tag = c.args.tag in
    let policies = c.args.policies.now in
    let seen = c.in-Some.calls.items in
    let classes = c.in_ok-shown.shown.classes.keys in
    let calls = c.in_ok-shown.shown.calls.items in
    let shown : list_all is_well_made policies ≡ true → list_all (list_all is_shown_arg) seen ≡ true =
    subst (λ o. IfSome o (λ calls. list_all is_well_made policies ≡ true → list_all (list_all is_shown_arg) calls.items ≡ true)) c.in-Some.is c.in_ok-calls.ensures.shown in
    let so : AreShortestSoFar (class_of tag policies) seen (length seen) classes calls =
    subst (λ s. AreShortestSoFar (class_of tag policies) s (length s) classes calls) c.deref.ensures.value c.in_ok-shown.ensures in
    kept_pass (list_all is_shown_arg) (class_of tag policies) seen (length seen) classes calls so (shown made)
