-- Changes are shown by the shortest call of their class.
use Rattle.std.specs.List.{list_all}
use Rattle.std.proofs.Common.{◌≡◌, inl, inr, ◌∙◌, ◌<◌, ℕ, true, false, None, Some, List, [], ◌∷◌, ◌++◌, length, refl, ap, sym, subst, arith, append-nil, append_assoc}
use Rattle.std.proofs.lemmas.Bool.{and_parts, false≢true}
use Rattle.sb_call.specs.Arguments.{fits}
use Rattle.sb_call.specs.declared.arguments.Arg.{Arg}
use Rattle.sb_call.specs.declared.tags.CallTag.{CallTag}
use Rattle.sb_cover.specs.Choices.{is_passable, is_shown_arg}
use Rattle.sb_explore.specs.Exploring.{list_at}
use Rattle.sb_rule.specs.WellMade.{is_well_made}
use Rattle.sb_rule.specs.declared.policies.Policy.{Policy}
use Rattle.sb_compare.specs.Candidates.{candidates}
use Rattle.sb_compare.specs.Changes.{change_of, is_answered_alike, AnswersAlike, ChangesDecideAnswers}
use Rattle.sb_compare.specs.Classes.{class_of_change}
use Rattle.sb_compare.specs.ShownCalls.{call_at, AreShortest, IsFoundIn}
use Rattle.sb_compare.specs.ShownChanges.{AreAllChanges, ArePut, AreShown, IsChangePut, IsNoChange, IsShown}
use Rattle.sb_compare.specs.declared.changes.Change.{Change}
use Rattle.sb_compare.specs.declared.changes.ShownChange.{ShownChange}
use Rattle.sb_compare.proofs.Walks.{AreAllSoFar, ArePutSoFar}
use Rattle.sb_compare.proofs.ClassLemmas.{same_change}
use Rattle.sb_compare.proofs.ShownCallLemmas.{test_at}

-- a change whose calls both policies answer alike
pub alike_none : ChangesDecideAnswers → (tag : CallTag) (old new : Policy) (change : Change) → is_well_made old ≡ true → is_well_made new ≡ true → is_answered_alike change ≡ true
    → IsNoChange tag old new change
alike_none law tag old new change old_made new_made alike args is has =
    let fitting = (and_parts (list_all is_passable args) (fits tag args) is).1 in
    subst (λ c. AnswersAlike c args) has ((law tag old new args old_made new_made fitting).0 (ap is_answered_alike has ∙ alike))

-- a change that no call has
pub missing_none : (tag : CallTag) (old new : Policy) (change : Change) (class : List ℕ) (classes : List (List ℕ)) (calls : List (List Arg)) → class ≡ class_of_change change
    → IsFoundIn classes calls class None → AreShortest tag (old ∷ new ∷ []) classes calls → IsNoChange tag old new change
missing_none tag old new change class classes calls is_class missing are args is has =
    let k = are.all args is in
    absurd (missing k.0 k.1 (sym k.2 ∙ ap class_of_change has ∙ sym is_class))

-- the shortest call of the class of a change
pub found_shown : ChangesDecideAnswers → (tag : CallTag) (old new : Policy) (change : Change) (class : List ℕ) (classes : List (List ℕ)) (calls : List (List Arg)) (call : List Arg)
    → is_well_made old ≡ true → is_well_made new ≡ true → class ≡ class_of_change change → is_answered_alike change ≡ false → IsFoundIn classes calls class (Some call)
    → AreShortest tag (old ∷ new ∷ []) classes calls → list_all (list_all is_shown_arg) calls ≡ true → IsShown tag old new change call
found_shown law tag old new change class classes calls call old_made new_made is_class unlike found are written =
    subst (IsShown tag old new change) (sym found.3) (record {
      fits = are.fit k low;
      has = has;
      unlike = λ alike.
          false≢true (sym unlike ∙ sym (ap is_answered_alike has)
          ∙ (law tag old new (call_at calls k) old_made new_made (are.fit k low)).1 (subst (λ c. AnswersAlike c (call_at calls k)) (sym has) alike));
      written = test_at (list_all is_shown_arg) calls k (omega (arith, low, are.as_many)) written;
      shortest = λ other is other_has.
          are.shortest k low other is (ap class_of_change other_has ∙ sym is_class ∙ sym there);
    })
  where
    k : ℕ
    k = found.0

    low : found.0 < length classes
    low = found.1

    there : list_at classes found.0 ≡ class
    there = found.2

    has : change_of tag old new (call_at calls found.0) ≡ change
    has = same_change (change_of tag old new (call_at calls found.0)) change (are.each found.0 found.1 ∙ found.2 ∙ is_class)

-- changes put one after another
pub put_none : (tag : CallTag) (old new : Policy) (changes : List Change) (before : List ShownChange) → ArePutSoFar tag old new changes changes before before
put_none tag old new changes before = ([], sym (append-nil before), λ later h. h)

pub put_more : (tag : CallTag) (old new : Policy) (all rest : List Change) (change : Change) (start before after : List ShownChange) → IsChangePut tag old new change before after
    → ArePutSoFar tag old new all (change ∷ rest) start before → ArePutSoFar tag old new all rest start after
put_more tag old new all rest change start before after (inl h) so = (so.0, h.0 ∙ so.1, λ later k. so.2 later (inl (h.1, k)))
put_more tag old new all rest change start before after (inr h) so = (
  so.0 ++ shown ∷ [],
  h.1 ∙ ap (λ l. l ++ shown ∷ []) so.1 ∙ append_assoc start so.0 (shown ∷ []),
  λ later k. subst (AreShown tag old new all) (sym (append_assoc so.0 (shown ∷ []) later)) (so.2 (shown ∷ later) (inr (h.0, later, refl, h.2, k))),
)
  where
    shown : ShownChange
    shown = record { policy = new.name; tag = tag; change = change; call = h.0 }

pub put_all : (tag : CallTag) (old new : Policy) (all rest : List Change) (before after : List ShownChange) → rest ≡ [] → ArePutSoFar tag old new all rest before after
    → ArePut tag old new all before after
put_all tag old new all rest before after e so =
    (so.0, so.1, subst (AreShown tag old new all) (append-nil so.0) (so.2 [] (subst (λ r. AreShown tag old new r []) (sym e) refl)))

-- tags one after another
pub tag_none : (old new : Policy) (tags : List CallTag) (before : List ShownChange) → AreAllSoFar old new tags tags before before
tag_none old new tags before = ([], sym (append-nil before), λ later h. h)

pub tag_more : (old new : Policy) (all rest : List CallTag) (tag : CallTag) (start before after : List ShownChange) → ArePut tag old new (candidates tag old new) before after
    → AreAllSoFar old new all (tag ∷ rest) start before → AreAllSoFar old new all rest start after
tag_more old new all rest tag start before after put so = (
  so.0 ++ put.0,
  put.1 ∙ ap (λ l. l ++ put.0) so.1 ∙ append_assoc start so.0 put.0,
  λ later h. subst (AreAllChanges old new all) (sym (append_assoc so.0 put.0 later)) (so.2 (put.0 ++ later) (put.0, later, refl, put.2, h)),
)

pub tags_all : (old new : Policy) (all rest : List CallTag) (before after : List ShownChange) → rest ≡ [] → AreAllSoFar old new all rest before after
    → (here : List ShownChange) × (after ≡ before ++ here) × AreAllChanges old new all here
tags_all old new all rest before after e so =
    (so.0, so.1, subst (AreAllChanges old new all) (append-nil so.0) (so.2 [] (subst (λ r. AreAllChanges old new r []) (sym e) refl)))
