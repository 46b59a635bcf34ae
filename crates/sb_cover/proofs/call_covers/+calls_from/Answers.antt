use Rattle.std.specs.List.{list_all, Contains}
use Rattle.std.specs.Prelude.{IfSome}
use Rattle.std.proofs.Common.{◌≡◌, ◌∙◌, ◌<◌, ◌++◌, ◌∷◌, ◌+◌, [], ℕ, Bool, List, true, ap, arith, get_or, length, length-append, subst, sym}
use Rattle.std.proofs.lemmas.List.{get_or_read}
use Rattle.sb_call.specs.Arguments.{arg_at, fit}
use Rattle.sb_call.specs.declared.arguments.Arg.{Arg}
use Rattle.sb_cover.specs.Calls.{later_at, AllSplit, AreCalls, JoinTo}
use Rattle.sb_cover.specs.Choices.{is_shown_arg, AreChoices}
use Rattle.sb_cover.specs.Lefts.{left_at, AreLefts}
use Rattle.sb_cover.proofs.CallLemmas.{all_calls, all_fit, all_shown, laters_one, no_kinds}
use Rattle.sb_cover.proofs.ParamLemmas.{if_some}
use Rattle.sb_cover.proofs.call_covers.+calls_from.Goals as goal

pub returns-in_default-clause-all : goal.returns-in_default-clause-all
returns-in_default-clause-all t c =
    no_kinds c.args.table.now.conds.items c.args.param c.args.kinds.now c.args.questions.now c.new-calls.result.items c.push.new.self.items c.empty.result c.in_default.ensures.cases
    c.in_ok-push.ensures.items c.empty.ensures

pub loop-left-init : goal.loop-left-init
loop-left-init t c = record {
  many = ap length c.new-laters.ensures.items;
  all = λ j h. absurd (omega (arith, h));
  fit = λ j h. absurd (omega (arith, h));
  shown = λ plain j h. absurd (omega (arith, h));
}

pub calls_from-requires : goal.calls_from-requires
calls_from-requires t c =
    let conds = c.args.table.now.conds.items in
    let questions = c.args.questions.now in
    let labels = c.in-Some-2.choices.labels.keys in
    let items = c.deref-left-items.result.now in
    let i = c.loop-left.left-index in
    let long : length c.in-Some.rest.now + 1 ≡ length c.args.kinds.now = c.in-Some.ensures.cases.1 in
    let lefts : AreLefts conds (c.args.param + 1) questions labels (length labels) c.in_ok-lefts.lefts.lists.items c.in_ok-lefts.lefts.places.items =
    subst (λ l. AreLefts conds (c.args.param + 1) questions l (length l) c.in_ok-lefts.lefts.lists.items c.in_ok-lefts.lefts.places.items) c.as_slice.ensures.keys
    (subst (λ d. AreLefts d (c.args.param + 1) questions c.as_slice.result.now (length c.as_slice.result.now) c.in_ok-lefts.lefts.lists.items c.in_ok-lefts.lefts.places.items) c.deref.ensures.value
    c.in_ok-lefts.ensures) in
    let left : c.deref-in-loop-left.result.now ≡ left_at items i = c.deref-in-loop-left.ensures ∙ get_or_read items i c.left-item.result c.loop-left-test.true c.left-item.is [] in
    let there : c.deref-in-loop-left.result.now ≡ left_at c.in_ok-lefts.lefts.lists.items i = left ∙ ap (λ l. left_at l i) c.deref-left-items.ensures.value in
    let low : i < length c.in_ok-lefts.lefts.lists.items = subst (λ l. i < length l) c.deref-left-items.ensures.value c.loop-left-test.true in
    let few : c.args.param + 1 + length c.in-Some.rest.now < 4294967296 = omega (arith, long, c.requires.few) in
    (omega (arith, long, c.decreases), (few, subst (AllSplit conds (c.args.param + 1)) (sym there) (lefts.split i low)))

pub loop-left-preserved : goal.loop-left-preserved
loop-left-preserved t c =
    let conds = c.args.table.now.conds.items in
    let rest = c.in-Some.rest.now in
    let items = c.deref-left-items.result.now in
    let i = c.loop-left.left-index in
    let laters = c.loop-left.laters.items in
    let later = c.in-Some-3.later.items in
    let many : length laters ≡ i = c.loop-left.invariant.many in
    let put : c.push-in-loop-left.new.self.items ≡ laters ++ later ∷ [] = c.in_ok-push-2.ensures.items ∙ ap (λ l. laters ++ l ∷ []) c.new.ensures in
    let left : c.deref-in-loop-left.result.now ≡ left_at items i = c.deref-in-loop-left.ensures ∙ get_or_read items i c.left-item.result c.loop-left-test.true c.left-item.is [] in
    let are : AreCalls conds (c.args.param + 1) rest (left_at items i) later =
    subst (λ l. AreCalls conds (c.args.param + 1) rest l later) left
    (subst (λ o. IfSome o (λ calls. AreCalls conds (c.args.param + 1) rest c.deref-in-loop-left.result.now calls.items)) c.in-Some-3.is c.in_ok-later.ensures.all) in
    let fits : list_all (fit rest) later ≡ true = subst (λ o. IfSome o (λ calls. list_all (fit rest) calls.items ≡ true)) c.in-Some-3.is c.in_ok-later.ensures.fit in
    let shown : c.args.table.now.is_plain ≡ true → list_all (list_all is_shown_arg) later ≡ true =
    subst (λ o. IfSome o (λ calls. c.args.table.now.is_plain ≡ true → list_all (list_all is_shown_arg) calls.items ≡ true)) c.in-Some-3.is c.in_ok-later.ensures.shown in
    record {
      many = ap length put ∙ length-append laters (later ∷ []) ∙ ap (λ n. n + 1) many;
      all = laters_one (λ j l. AreCalls conds (c.args.param + 1) rest (left_at items j) l) laters c.push-in-loop-left.new.self.items later i many put c.loop-left.invariant.all are;
      fit = laters_one (λ j l. list_all (fit rest) l ≡ true) laters c.push-in-loop-left.new.self.items later i many put c.loop-left.invariant.fit fits;
      shown = λ plain.
          laters_one (λ j l. list_all (list_all is_shown_arg) l ≡ true) laters c.push-in-loop-left.new.self.items later i many put (c.loop-left.invariant.shown plain) (shown plain);
    }

pub join_all-requires-clause-within : goal.join_all-requires-clause-within
join_all-requires-clause-within t c = λ k h.
    let conds = c.args.table.now.conds.items in
    let kind = c.in-Some.kind.now in
    let questions = c.args.questions.now in
    let values = c.in-Some-2.choices.values.items in
    let labels = c.in-Some-2.choices.labels.keys in
    let choices : AreChoices conds kind questions values labels =
    subst (λ o. IfSome o (λ choices. AreChoices conds kind questions choices.values.items choices.labels.keys)) c.in-Some-2.is c.in_ok-choices.ensures.all in
    let lefts : AreLefts conds (c.args.param + 1) questions labels (length labels) c.in_ok-lefts.lefts.lists.items c.in_ok-lefts.lefts.places.items =
    subst (λ l. AreLefts conds (c.args.param + 1) questions l (length l) c.in_ok-lefts.lefts.lists.items c.in_ok-lefts.lefts.places.items) c.as_slice.ensures.keys
    (subst (λ d. AreLefts d (c.args.param + 1) questions c.as_slice.result.now (length c.as_slice.result.now) c.in_ok-lefts.lefts.lists.items c.in_ok-lefts.lefts.places.items) c.deref.ensures.value
    c.in_ok-lefts.ensures) in
    let low : k < length labels = omega (arith, h, ap length c.deref-2.ensures.value, choices.as_many) in
    let within : get_or c.in_ok-lefts.lefts.places.items k 0 < length c.loop-left.laters.items =
    omega (arith, lefts.within k low, c.loop-left.invariant.many, c.loop-left-test.false, ap length c.deref-left-items.ensures.value) in
    subst (λ p. get_or p k 0 < length c.deref-4.result.now) (sym c.deref-3.ensures.value)
    (subst (λ l. get_or c.in_ok-lefts.lefts.places.items k 0 < length l) (sym c.deref-4.ensures.value) within)

pub returns-clause-all : goal.returns-clause-all
returns-clause-all t c =
    let conds = c.args.table.now.conds.items in
    let kind = c.in-Some.kind.now in
    let rest = c.in-Some.rest.now in
    let questions = c.args.questions.now in
    let values = c.in-Some-2.choices.values.items in
    let labels = c.in-Some-2.choices.labels.keys in
    let whole : c.args.kinds.now ≡ kind ∷ rest = c.in-Some.ensures.cases.0 in
    let choices : AreChoices conds kind questions values labels =
    subst (λ o. IfSome o (λ choices. AreChoices conds kind questions choices.values.items choices.labels.keys)) c.in-Some-2.is c.in_ok-choices.ensures.all in
    let lefts : AreLefts conds (c.args.param + 1) questions labels (length labels) c.in_ok-lefts.lefts.lists.items c.in_ok-lefts.lefts.places.items =
    subst (λ l. AreLefts conds (c.args.param + 1) questions l (length l) c.in_ok-lefts.lefts.lists.items c.in_ok-lefts.lefts.places.items) c.as_slice.ensures.keys
    (subst (λ d. AreLefts d (c.args.param + 1) questions c.as_slice.result.now (length c.as_slice.result.now) c.in_ok-lefts.lefts.lists.items c.in_ok-lefts.lefts.places.items) c.deref.ensures.value
    c.in_ok-lefts.ensures) in
    if_some c.in_ok-calls.calls
    (λ calls. (k : ℕ) (x : List Arg) → k < length c.deref-2.result.now → Contains (later_at c.deref-4.result.now (get_or c.deref-3.result.now k 0)) x
    → Contains calls.items (arg_at c.deref-2.result.now k ∷ x))
    (λ calls. AreCalls conds c.args.param c.args.kinds.now questions calls.items)
    (λ calls joined. all_calls conds c.args.param kind rest c.args.kinds.now questions c.deref-2.result.now values labels c.deref-left-items.result.now c.in_ok-lefts.lefts.lists.items
    c.deref-3.result.now c.in_ok-lefts.lefts.places.items c.deref-4.result.now c.loop-left.laters.items c.loop-left.left-index calls.items whole c.requires.split choices lefts
    c.deref-2.ensures.value c.deref-3.ensures.value c.deref-4.ensures.value c.deref-left-items.ensures.value c.loop-left-test.false c.loop-left.invariant.all joined)
    c.in_ok-calls.ensures.here

pub returns-clause-fit : goal.returns-clause-fit
returns-clause-fit t c =
    let conds = c.args.table.now.conds.items in
    let kind = c.in-Some.kind.now in
    let rest = c.in-Some.rest.now in
    let questions = c.args.questions.now in
    let values = c.in-Some-2.choices.values.items in
    let labels = c.in-Some-2.choices.labels.keys in
    let whole : c.args.kinds.now ≡ kind ∷ rest = c.in-Some.ensures.cases.0 in
    let choices : AreChoices conds kind questions values labels =
    subst (λ o. IfSome o (λ choices. AreChoices conds kind questions choices.values.items choices.labels.keys)) c.in-Some-2.is c.in_ok-choices.ensures.all in
    if_some c.in_ok-calls.calls
    (λ calls. (one : Arg → Bool) (more every : List Arg → Bool) → JoinTo one more every → list_all one c.deref-2.result.now ≡ true
    → ((j : ℕ) → j < length c.deref-4.result.now → list_all more (later_at c.deref-4.result.now j) ≡ true) → list_all every calls.items ≡ true)
    (λ calls. list_all (fit c.args.kinds.now) calls.items ≡ true)
    (λ calls joined. all_fit kind rest c.args.kinds.now c.deref-2.result.now values c.deref-4.result.now c.loop-left.laters.items (length labels) c.loop-left.left-index calls.items whole
    c.deref-2.ensures.value c.deref-4.ensures.value choices.as_many c.loop-left.invariant.many choices.fit c.loop-left.invariant.fit joined)
    c.in_ok-calls.ensures.all

pub returns-clause-shown : goal.returns-clause-shown
returns-clause-shown t c =
    let values = c.in-Some-2.choices.values.items in
    let shown : c.args.table.now.is_plain ≡ true → list_all is_shown_arg values ≡ true =
    subst (λ o. IfSome o (λ choices. c.args.table.now.is_plain ≡ true → list_all is_shown_arg choices.values.items ≡ true)) c.in-Some-2.is c.in_ok-choices.ensures.shown in
    if_some c.in_ok-calls.calls
    (λ calls. (one : Arg → Bool) (more every : List Arg → Bool) → JoinTo one more every → list_all one c.deref-2.result.now ≡ true
    → ((j : ℕ) → j < length c.deref-4.result.now → list_all more (later_at c.deref-4.result.now j) ≡ true) → list_all every calls.items ≡ true)
    (λ calls. c.args.table.now.is_plain ≡ true → list_all (list_all is_shown_arg) calls.items ≡ true)
    (λ calls joined plain. all_shown c.deref-2.result.now values c.deref-4.result.now c.loop-left.laters.items c.loop-left.left-index calls.items c.deref-2.ensures.value c.deref-4.ensures.value
    c.loop-left.invariant.many (shown plain) (c.loop-left.invariant.shown plain) joined)
    c.in_ok-calls.ensures.all
