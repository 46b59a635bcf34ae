use Rattle.std.specs.List.{list_all}
use Rattle.std.specs.Prelude.{IfSome}
use Rattle.std.proofs.Common.{◌≡◌, ◌∙◌, [], true, ap, subst, sym}
use Rattle.sb_call.specs.Arguments.{fit, fits}
use Rattle.sb_cover.specs.Calls.{AreCalls, AreLeft}
use Rattle.sb_cover.specs.Choices.{is_shown_arg}
use Rattle.sb_cover.specs.Covers.{IsCover}
use Rattle.sb_cover.specs.Opening.{AllOpened, AllUnread}
use Rattle.sb_cover.specs.PlainQuestions.{is_plain_asked, is_plain_question}
use Rattle.sb_cover.specs.Pruning.{is_true, IsLabel}
use Rattle.sb_cover.proofs.CoverLemmas.{calls_cover}
use Rattle.sb_cover.proofs.ParamLemmas.{if_some}
use Rattle.sb_cover.proofs.covers.cover.Goals as goal

pub returns-clause-all : goal.returns-clause-all
returns-clause-all c =
    let table = c.in-Some-2.table in
    let conds = table.conds.items in
    let tag = c.args.tag in
    let questions = c.args.questions.now in
    let unread = c.in-Some.unread in
    let label = c.in_ok-label.label in
    let left = c.in_ok-left.left in
    let kinds = c.shape.result.now in
    let same : conds ≡ c.open_questions.new.conds.items = subst (λ o. IfSome o (λ t. t.conds.items ≡ c.open_questions.new.conds.items)) c.in-Some-2.is c.in_ok-table.ensures.conds in
    let opened : AllOpened conds tag questions unread =
    subst (λ l. AllOpened l tag questions unread) (sym same) (subst (λ o. IfSome o (AllOpened c.open_questions.new.conds.items tag questions)) c.in-Some.is c.in_ok-unread.ensures.rules) in
    let are : AllUnread unread = subst (λ o. IfSome o AllUnread) c.in-Some.is c.in_ok-unread.ensures.unread in
    let is : IsLabel (is_true []) unread label = subst (λ l. IsLabel (is_true []) l label) c.deref.ensures c.in_ok-label.ensures in
    let is_left : AreLeft unread label left =
    subst (λ l. AreLeft unread l left) c.numbers.ensures (subst (λ l. AreLeft l c.numbers.result.now left) c.deref-3.ensures c.in_ok-left.ensures.left) in
    if_some c.in_ok-calls.calls (λ calls. AreCalls conds 0 kinds c.deref-4.result.now calls.items) (λ calls. IsCover tag questions calls.items)
    (λ calls are_calls. calls_cover conds tag kinds questions unread left label calls.items c.shape.ensures opened are is is_left
    (subst (λ q. AreCalls conds 0 kinds q calls.items) c.deref-4.ensures are_calls))
    c.in_ok-calls.ensures.all

pub returns-clause-fit : goal.returns-clause-fit
returns-clause-fit c =
    if_some c.in_ok-calls.calls (λ calls. list_all (fit c.shape.result.now) calls.items ≡ true) (λ calls. list_all (fits c.args.tag) calls.items ≡ true)
    (λ calls all. ap (λ kinds. list_all (fit kinds) calls.items) (sym c.shape.ensures) ∙ all) c.in_ok-calls.ensures.fit

pub returns-clause-shown : goal.returns-clause-shown
returns-clause-shown c =
    let table = c.in-Some-2.table in
    let conds = c.open_questions.new.conds.items in
    let is_plain : list_all is_plain_asked conds ≡ true → table.is_plain ≡ true =
    subst (λ o. IfSome o (λ t. list_all is_plain_asked conds ≡ true → t.is_plain ≡ true)) c.in-Some-2.is c.in_ok-table.ensures.plain in
    if_some c.in_ok-calls.calls (λ calls. table.is_plain ≡ true → list_all (list_all is_shown_arg) calls.items ≡ true)
    (λ calls. list_all is_plain_question c.args.questions.now ≡ true → list_all (list_all is_shown_arg) calls.items ≡ true)
    (λ calls shown plain. shown (is_plain (c.in_ok-unread.ensures.plain plain (ap (list_all is_plain_asked) c.new-conds.ensures.items))))
    c.in_ok-calls.ensures.shown
