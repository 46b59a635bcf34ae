-- Lists of questions that are there again.
use Rattle.std.specs.Prelude.{nat_eq}
use Rattle.std.specs.Cmp.Lexicographic.{pointwise, bytes_decides}
use Rattle.std.proofs.Common.{◌≡◌, ◌⊎◌, inl, inr, ◌∙◌, ◌≤◌, ◌<◌, ◌+◌, ℕ, Bool, true, false, List, [], ◌∷◌, ◌++◌, eqb, length, get_or, refl, ap, sym, subst, arith, append-nil, length-append}
use Rattle.std.proofs.lemmas.Bool.{eqb-true}
use Rattle.std.proofs.lemmas.Bool.Decides.{nat_tests}
use Rattle.std.proofs.lemmas.List.{get_or_append_left, get_or_push, get_or_read}
use Rattle.sb_explore.specs.Exploring.{list_at}
use Rattle.sb_cover.specs.Calls.{AllSplit, AreLeft}
use Rattle.sb_cover.specs.Lefts.{left_at, AreLefts, IsPlaced}
use Rattle.sb_cover.specs.declared.asked_conds.AskedCond.{AskedCond}
use Rattle.sb_cover.specs.declared.open_rules.OpenRule.{OpenRule}
use Rattle.sb_cover.specs.declared.open_rules.OpenQuestion.{OpenQuestion}

pub equal_numbers : (a b : List ℕ) → pointwise nat_eq a b ≡ true → a ≡ b
equal_numbers a b e = (bytes_decides a b).0 e

pub same_rule : (a b : OpenRule) → a.place ≡ b.place → a.here ≡ b.here → a.later ≡ b.later → a ≡ b
same_rule a b place here later = λ i. record { place = place i; here = here i; later = later i }

pub same_question : (a b : OpenQuestion) → a.depth ≡ b.depth → a.rules ≡ b.rules → a ≡ b
same_question a b depth rules = λ i. record { depth = depth i; rules = rules i }

-- two lists with one rule more at the front
pub one_rule_more : (a b rest other_rest : List OpenRule) (rule other : OpenRule) → a ≡ rule ∷ rest → b ≡ other ∷ other_rest → rule ≡ other → rest ≡ other_rest → a ≡ b
one_rule_more a b rest other_rest rule other e f same rests = e ∙ (λ i. same i ∷ rests i) ∙ sym f

pub no_rule_more : (a b : List OpenRule) → length a ≡ 0 → length b ≡ 0 → a ≡ b
no_rule_more [] [] e f = refl
no_rule_more [] (y ∷ b) e f = absurd (omega (arith, f))
no_rule_more (x ∷ a) b e f = absurd (omega (arith, e))

pub one_question_more : (a b rest other_rest : List OpenQuestion) (question other : OpenQuestion) → a ≡ question ∷ rest → b ≡ other ∷ other_rest → question ≡ other → rest ≡ other_rest → a ≡ b
one_question_more a b rest other_rest question other e f same rests = e ∙ (λ i. same i ∷ rests i) ∙ sym f

pub no_question_more : (a b : List OpenQuestion) → length a ≡ 0 → length b ≡ 0 → a ≡ b
no_question_more [] [] e f = refl
no_question_more [] (y ∷ b) e f = absurd (omega (arith, f))
no_question_more (x ∷ a) b e f = absurd (omega (arith, e))

pub found_at : (lists : List (List OpenQuestion)) (i : ℕ) (list left : List OpenQuestion) → i < length lists → list ≡ get_or lists i list → list ≡ left → left_at lists i ≡ left
found_at lists i list left low is same = sym (get_or_read lists i list low is []) ∙ same

-- a list that was there, and one that is put last
pub placed_before : (left : List OpenQuestion) (place : ℕ) (lists : List (List OpenQuestion)) → place < length lists → left_at lists place ≡ left → IsPlaced left place lists lists
placed_before left place lists low there = record {
  more = ([], sym (append-nil lists));
  within = low;
  there = there;
  others = λ j h. inr (h, refl);
}

pub placed_last : (left : List OpenQuestion) (place : ℕ) (lists new : List (List OpenQuestion)) → place ≡ length lists → new ≡ lists ++ left ∷ [] → IsPlaced left place lists new
placed_last left place lists new last e = subst (IsPlaced left place lists) (sym e) (record {
  more = (left ∷ [], refl);
  within = omega (arith, last, length-append lists (left ∷ []));
  there = get_or_push lists left [] place (sym last);
  others = others;
})
  where
    others : (j : ℕ) → j < length (lists ++ left ∷ []) → (left_at (lists ++ left ∷ []) j ≡ left) ⊎ ((j < length lists) × (left_at (lists ++ left ∷ []) j ≡ left_at lists j))
    others j h = by (eqb j (length lists)) refl
      where
        by : (b : Bool) → eqb j (length lists) ≡ b → (left_at (lists ++ left ∷ []) j ≡ left) ⊎ ((j < length lists) × (left_at (lists ++ left ∷ []) j ≡ left_at lists j))
        by true k = inl (get_or_push lists left [] j (sym (eqb-true j (length lists) k)))
        by false k =
            let low : j < length lists = grind (arith, nat_tests, length-append lists (left ∷ [])) in
            inr (low, get_or_append_left lists (left ∷ []) [] j low)

-- the list of one label more
pub lefts_one : (conds : List AskedCond) (param : ℕ) (questions : List OpenQuestion) (labels : List (List ℕ)) (count : ℕ) (lists new : List (List OpenQuestion)) (places new_places : List ℕ)
    (left : List OpenQuestion) (place : ℕ) (label : List ℕ) → label ≡ list_at labels count → AreLeft questions label left → AllSplit conds param left → IsPlaced left place lists new
    → new_places ≡ places ++ place ∷ [] → AreLefts conds param questions labels count lists places → AreLefts conds param questions labels (count + 1) new new_places
lefts_one conds param questions labels count lists new places new_places left place label is_label is_left split placed put before =
    subst (AreLefts conds param questions labels (count + 1) new) (sym put) (record {
      as_many = length-append places (place ∷ []) ∙ ap (λ n. n + 1) before.as_many;
      within = λ k h. each (λ k p. p < length new) (λ k h. omega (arith, before.within k h, longer)) placed.within k h;
      left = λ k h. each (λ k p. AreLeft questions (list_at labels k) (left_at new p)) (λ k h. subst (AreLeft questions (list_at labels k)) (sym (kept (get_or places k 0) (before.within k h))) (before.left k h))
          (subst (AreLeft questions (list_at labels count)) (sym placed.there) (subst (λ l. AreLeft questions l left) is_label is_left)) k h;
      split = λ j h. kept_split j (placed.others j h);
    })
  where
    longer : length lists ≤ length new
    longer = omega (arith, ap length placed.more.1, length-append lists placed.more.0)

    kept : (p : ℕ) → p < length lists → left_at new p ≡ left_at lists p
    kept p low = ap (λ l. get_or l p []) placed.more.1 ∙ get_or_append_left lists placed.more.0 [] p low

    kept_split : (j : ℕ) → (left_at new j ≡ left) ⊎ ((j < length lists) × (left_at new j ≡ left_at lists j)) → AllSplit conds param (left_at new j)
    kept_split j (inl e) = subst (AllSplit conds param) (sym e) split
    kept_split j (inr p) = subst (AllSplit conds param) (sym p.1) (before.split j p.0)

    each : (P : ℕ → ℕ → Type 0) → ((k : ℕ) → k < count → P k (get_or places k 0)) → P count place → (k : ℕ) → k < count + 1 → P k (get_or (places ++ place ∷ []) k 0)
    each P old last k h = by (eqb k count) refl
      where
        by : (b : Bool) → eqb k count ≡ b → P k (get_or (places ++ place ∷ []) k 0)
        by true e =
            let same : count ≡ k = sym (eqb-true k count e) in
            subst (λ n. P n (get_or (places ++ place ∷ []) n 0)) same (subst (P count) (sym (get_or_push places place 0 count before.as_many)) last)
        by false e =
            let low : k < count = grind (arith, nat_tests) in
            let inside : k < length places = omega (arith, low, before.as_many) in
            subst (P k) (sym (get_or_append_left places (place ∷ []) 0 k inside)) (old k low)
