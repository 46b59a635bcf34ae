-- The shorter one of the calls that do more than read and of those that do not is the shortest of all.
use Rattle.std.specs.List.{list_all}
use Rattle.std.proofs.Common.{◌≡◌, ◌∙◌, ◌<◌, ℕ, Bool, true, false, cond, Option, None, Some, List, [], ◌∷◌, ◌++◌, length, refl, ap, sym, subst, arith, append-nil, append_assoc}
use Rattle.sb_call.specs.Arguments.{fits}
use Rattle.sb_call.specs.declared.arguments.Arg.{Arg}
use Rattle.sb_call.specs.declared.tags.CallTag.{CallTag}
use Rattle.sb_cover.specs.CallAccesses.{writes}
use Rattle.sb_cover.specs.Choices.{is_shown_arg}
use Rattle.sb_cover.specs.Lengths.{is_shorter}
use Rattle.sb_cover.specs.PolicyCovers.{is_call}
use Rattle.sb_rule.specs.Verdicts.{verdict_of}
use Rattle.sb_rule.specs.declared.policies.Policy.{Policy}
use Rattle.sb_rule.specs.declared.verdicts.Verdict.{Verdict}
use Rattle.sb_compare.specs.Candidates.{verdicts}
use Rattle.sb_compare.specs.Classes.{bit_of, class_of_verdict, verdict_numbers}
use Rattle.sb_compare.specs.Decided.{AreDecided, AreDecidedPut, AreAllDecided, IsDecidedPut, IsToldOf, shorter_of}
use Rattle.sb_compare.specs.ShownCalls.{call_at, AreShortest, IsFoundIn}
use Rattle.sb_compare.specs.declared.decided.Decided.{Decided}
use Rattle.sb_compare.proofs.Walks.{AreAllDecidedSoFar, AreDecidedSoFar}
use Rattle.sb_compare.proofs.ClassLemmas.{same_verdict}
use Rattle.sb_compare.proofs.ShownCallLemmas.{not_shorter, not_shorter_either, test_at}

-- what is known of the calls with a verdict that do, or do not do, more than read
abbrev IsToldOfHalf : CallTag → Policy → Verdict → Bool → Option (List Arg) → Type 0
IsToldOfHalf tag policy verdict half None = (args : List Arg) → is_call tag args ≡ true → verdict_of policy tag args ≡ verdict → writes tag args ≡ half → ⊥
IsToldOfHalf tag policy verdict half (Some call) =
    (fits tag call ≡ true) × (verdict_of policy tag call ≡ verdict) × (list_all is_shown_arg call ≡ true)
    × ((other : List Arg) → is_call tag other ≡ true → verdict_of policy tag other ≡ verdict → writes tag other ≡ half → is_shorter other call ≡ false)

-- by the call of its class
half_told : (tag : CallTag) (policy : Policy) (verdict : Verdict) (half : Bool) (classes : List (List ℕ)) (calls : List (List Arg)) (o : Option (List Arg))
    → AreShortest tag (policy ∷ []) classes calls → list_all (list_all is_shown_arg) calls ≡ true → IsFoundIn classes calls (class_of_verdict half verdict) o → IsToldOfHalf tag policy verdict half o
half_told tag policy verdict half classes calls None are written found = λ args is has w.
    let k = are.all args is in
    found k.0 k.1 (sym k.2 ∙ (λ i. bit_of (w i) ∷ (verdict_numbers (has i) ++ [])))
half_told tag policy verdict half classes calls (Some call) are written found =
    let k = found.0 in
    let low : k < length classes = found.1 in
    let same : call ≡ call_at calls k = found.3 in
    let class : class_of_verdict (writes tag (call_at calls k)) (verdict_of policy tag (call_at calls k)) ≡ class_of_verdict half verdict = are.each k low ∙ found.2 in
    let inside : k < length calls = omega (arith, low, are.as_many) in (
      ap (fits tag) same ∙ are.fit k low,
      ap (verdict_of policy tag) same ∙ same_verdict (writes tag (call_at calls k)) half (verdict_of policy tag (call_at calls k)) verdict class,
      ap (list_all is_shown_arg) same ∙ test_at (list_all is_shown_arg) calls k inside written,
      λ other is has w.
          ap (is_shorter other) same ∙ are.shortest k low other is ((λ i. bit_of (w i) ∷ (verdict_numbers (has i) ++ [])) ∙ sym found.2),
    )

-- by both halves
told_by_halves : (tag : CallTag) (policy : Policy) (verdict : Verdict) (a b : Option (List Arg)) → IsToldOfHalf tag policy verdict false a → IsToldOfHalf tag policy verdict true b
    → IsToldOf tag policy verdict (shorter_of a b)
told_by_halves tag policy verdict None None reading writing = λ args is has. by args is has (writes tag args) refl
  where
    by : (args : List Arg) → is_call tag args ≡ true → verdict_of policy tag args ≡ verdict → (w : Bool) → writes tag args ≡ w → ⊥
    by args is has false e = reading args is has e
    by args is has true e = writing args is has e
told_by_halves tag policy verdict (Some a) None reading writing = record { fits = reading.0; has = reading.1; written = reading.2; shortest = λ other is has. by other is has (writes tag other) refl }
  where
    by : (other : List Arg) → is_call tag other ≡ true → verdict_of policy tag other ≡ verdict → (w : Bool) → writes tag other ≡ w → is_shorter other a ≡ false
    by other is has false e = reading.3 other is has e
    by other is has true e = absurd (writing other is has e)
told_by_halves tag policy verdict None (Some b) reading writing = record { fits = writing.0; has = writing.1; written = writing.2; shortest = λ other is has. by other is has (writes tag other) refl }
  where
    by : (other : List Arg) → is_call tag other ≡ true → verdict_of policy tag other ≡ verdict → (w : Bool) → writes tag other ≡ w → is_shorter other b ≡ false
    by other is has false e = absurd (reading other is has e)
    by other is has true e = writing.3 other is has e
told_by_halves tag policy verdict (Some a) (Some b) reading writing = by (is_shorter b a) refl
  where
    first : is_shorter b a ≡ false → (other : List Arg) → is_call tag other ≡ true → verdict_of policy tag other ≡ verdict → (w : Bool) → writes tag other ≡ w → is_shorter other a ≡ false
    first e other is has false w = reading.3 other is has w
    first e other is has true w = not_shorter_either other b a (writing.3 other is has w) e

    second : is_shorter b a ≡ true → (other : List Arg) → is_call tag other ≡ true → verdict_of policy tag other ≡ verdict → (w : Bool) → writes tag other ≡ w → is_shorter other b ≡ false
    second e other is has false w = not_shorter other a b (reading.3 other is has w) e
    second e other is has true w = writing.3 other is has w

    by : (s : Bool) → is_shorter b a ≡ s → IsToldOf tag policy verdict (cond s (Some b) (Some a))
    by true e = record { fits = writing.0; has = writing.1; written = writing.2; shortest = λ other is has. second e other is has (writes tag other) refl }
    by false e = record { fits = reading.0; has = reading.1; written = reading.2; shortest = λ other is has. first e other is has (writes tag other) refl }

-- a verdict with the shorter one of its calls
pub verdict_put : (tag : CallTag) (policy : Policy) (verdict : Verdict) (classes : List (List ℕ)) (calls : List (List Arg)) (reading writing : List ℕ) (a b call : Option (List Arg))
    (before after : List Decided) → reading ≡ class_of_verdict false verdict → writing ≡ class_of_verdict true verdict → IsFoundIn classes calls reading a → IsFoundIn classes calls writing b
    → call ≡ shorter_of a b → after ≡ before ++ (record { tag = tag; verdict = verdict; call = call }) ∷ [] → AreShortest tag (policy ∷ []) classes calls
    → list_all (list_all is_shown_arg) calls ≡ true → IsDecidedPut tag policy verdict before after
verdict_put tag policy verdict classes calls reading writing a b call before after is_reading is_writing found_a found_b is put are written = (
  call,
  put,
  subst (IsToldOf tag policy verdict) (sym is)
      (told_by_halves tag policy verdict a b
      (half_told tag policy verdict false classes calls a are written (subst (λ c. IsFoundIn classes calls c a) is_reading found_a))
      (half_told tag policy verdict true classes calls b are written (subst (λ c. IsFoundIn classes calls c b) is_writing found_b))),
)

-- verdicts one after another
pub verdicts_more : (tag : CallTag) (policy : Policy) (all rest : List Verdict) (verdict : Verdict) (start before after : List Decided) → IsDecidedPut tag policy verdict before after
    → AreDecidedSoFar tag policy all (verdict ∷ rest) start before → AreDecidedSoFar tag policy all rest start after
verdicts_more tag policy all rest verdict start before after put so = (
  so.0 ++ one ∷ [],
  put.1 ∙ ap (λ l. l ++ one ∷ []) so.1 ∙ append_assoc start so.0 (one ∷ []),
  λ later h. subst (AreDecided tag policy all) (sym (append_assoc so.0 (one ∷ []) later)) (so.2 (one ∷ later) (put.0, later, refl, put.2, h)),
)
  where
    one : Decided
    one = record { tag = tag; verdict = verdict; call = put.0 }

pub verdicts_all : (tag : CallTag) (policy : Policy) (all rest : List Verdict) (before after : List Decided) → rest ≡ [] → AreDecidedSoFar tag policy all rest before after
    → AreDecidedPut tag policy all before after
verdicts_all tag policy all rest before after e so =
    (so.0, so.1, subst (AreDecided tag policy all) (append-nil so.0) (so.2 [] (subst (λ r. AreDecided tag policy r []) (sym e) refl)))

-- tags one after another
pub decided_more : (policy : Policy) (all rest : List CallTag) (tag : CallTag) (before after : List Decided) → AreDecidedPut tag policy (verdicts tag policy.rules) before after
    → AreAllDecidedSoFar policy all (tag ∷ rest) before → AreAllDecidedSoFar policy all rest after
decided_more policy all rest tag before after put so later h =
    subst (AreAllDecided policy all) (sym (append_assoc before put.0 later) ∙ ap (λ l. l ++ later) (sym put.1)) (so (put.0 ++ later) (put.0, later, refl, put.2, h))

pub decided_all : (policy : Policy) (all rest : List CallTag) (list : List Decided) → rest ≡ [] → AreAllDecidedSoFar policy all rest list → AreAllDecided policy all list
decided_all policy all rest list e so = subst (AreAllDecided policy all) (append-nil list) (so [] (subst (λ r. AreAllDecided policy r []) (sym e) refl))
