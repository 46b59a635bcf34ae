-- One number for each label.
use Rattle.std.specs.List.{Contains, list_any}
use Rattle.std.proofs.Common.{◌≡◌, ◌⊎◌, inl, inr, ◌∙◌, ◌≤◌, ◌<◌, ◌+◌, ◌^◌, ℕ, Bool, true, false, List, [], ◌∷◌, ◌++◌, ◌&&◌, eqb, ltb, length, get_or, refl, ap, sym, subst, arith, length-append}
use Rattle.std.proofs.lemmas.Bool.{eqb-true, false≢true}
use Rattle.std.proofs.lemmas.Bool.Decides.{nat_tests}
use Rattle.std.proofs.lemmas.List.{get_or_append_left, get_or_default, get_or_past, get_or_push, get_or_read}
use Rattle.sb_call.specs.declared.arguments.Arg.TheVariants as arg
use Rattle.sb_explore.specs.Exploring.{list_at}
use Rattle.sb_cover.specs.AskedConds.{cond_at, is_met, met, no_cond}
use Rattle.sb_cover.specs.Bits.{AreNumbers, CompareAlike}
use Rattle.sb_cover.specs.Choices.{Decides, AreNumberChoices, AreNumbersPicked, IsNoted, IsNumberPicked}
use Rattle.sb_cover.specs.Pruning.{is_needed, is_true, AgreeWhereNeeded, AllDecideAlike, AreSure, IsLabel}
use Rattle.sb_cover.specs.declared.asked_conds.AskedCond.{AskedCond}
use Rattle.sb_cover.specs.declared.bits.Comparison.{Comparison}
use Rattle.sb_cover.specs.declared.open_rules.OpenQuestion.{OpenQuestion}
use Rattle.sb_cover.proofs.LabelLemmas.{alike_label}

-- whether one needed condition more holds
pub truth_more : (conds : List AskedCond) (needed truths : List Bool) (number i : ℕ) (asked : AskedCond) (flag truth : Bool) → i < length conds → asked ≡ get_or conds i asked
    → length truths ≡ i → flag ≡ is_needed needed i → (flag ≡ true → truth ≡ is_met asked (arg.Num number))
    → ((n : ℕ) → n < i → is_needed needed n ≡ true → met conds (arg.Num number) n ≡ is_true truths n)
    → (n : ℕ) → n < i + 1 → is_needed needed n ≡ true → met conds (arg.Num number) n ≡ is_true (truths ++ truth ∷ []) n
truth_more conds needed truths number i asked flag truth low is many f e before n less need = by (eqb n i) refl
  where
    by : (b : Bool) → eqb n i ≡ b → met conds (arg.Num number) n ≡ is_true (truths ++ truth ∷ []) n
    by true h =
        let same : i ≡ n = sym (eqb-true n i h) in
        let read : asked ≡ cond_at conds i = get_or_read conds i asked low is no_cond in
        let set : flag ≡ true = f ∙ ap (is_needed needed) same ∙ need in
        subst (λ m. met conds (arg.Num number) m ≡ is_true (truths ++ truth ∷ []) m) same
        (ap (λ a. is_met a (arg.Num number)) (sym read) ∙ sym (e set) ∙ sym (get_or_push truths truth false i many))
    by false h =
        let below : n < i = grind (arith, nat_tests) in
        let inside : n < length truths = omega (arith, below, many) in
        before n below need ∙ sym (get_or_append_left truths (truth ∷ []) false n inside)

pub truths_agree : (conds : List AskedCond) (needed truths : List Bool) (number i : ℕ) → length conds ≤ i → length truths ≡ i
    → ((n : ℕ) → n < i → is_needed needed n ≡ true → met conds (arg.Num number) n ≡ is_true truths n)
    → AgreeWhereNeeded needed (met conds (arg.Num number)) (is_true truths)
truths_agree conds needed truths number i past many before n need = by (ltb n i) refl
  where
    by : (b : Bool) → ltb n i ≡ b → met conds (arg.Num number) n ≡ is_true truths n
    by true e = let low : n < i = grind (arith, nat_tests) in before n low need
    by false e =
        let out : length truths ≤ n = grind (arith, nat_tests, many) in
        let out_conds : length conds ≤ n = grind (arith, nat_tests) in
        ap (λ a. is_met a (arg.Num number)) (get_or_past conds n no_cond out_conds) ∙ sym (get_or_past truths n false out)

-- the label of a number
pub number_decides : (conds : List AskedCond) (needed truths : List Bool) (questions : List OpenQuestion) (number : ℕ) (label : List ℕ)
    → ((f g : ℕ → Bool) → AgreeWhereNeeded needed f g → AllDecideAlike f g questions) → AgreeWhereNeeded needed (met conds (arg.Num number)) (is_true truths)
    → IsLabel (is_true truths) questions label → Decides conds questions (arg.Num number) label
number_decides conds needed truths questions number label alike agree labelled =
    alike_label (met conds (arg.Num number)) (is_true truths) questions label (alike (met conds (arg.Num number)) (is_true truths) agree) labelled

pub number_old : (conds : List AskedCond) (questions : List OpenQuestion) (number : ℕ) (values : List ℕ) (labels new_labels : List (List ℕ)) (label : List ℕ) (is_new : Bool)
    → Decides conds questions (arg.Num number) label → IsNoted is_new label labels new_labels → is_new ≡ false
    → IsNumberPicked conds questions number values labels values new_labels
number_old conds questions number values labels new_labels label is_new decides noted no_new = record { label = label; decides = decides; put = inr (by noted) }
  where
    by : IsNoted is_new label labels new_labels → (values ≡ values) × (new_labels ≡ labels) × (k : ℕ) × (k < length labels) × (list_at labels k ≡ label)
    by (inl p) = absurd (false≢true (sym no_new ∙ p.0))
    by (inr p) = (refl, p.1, p.2, p.3, p.4)

pub number_new : (conds : List AskedCond) (questions : List OpenQuestion) (number : ℕ) (values new_values : List ℕ) (labels new_labels : List (List ℕ)) (label : List ℕ) (is_new : Bool)
    → Decides conds questions (arg.Num number) label → IsNoted is_new label labels new_labels → is_new ≡ true → new_values ≡ values ++ number ∷ []
    → IsNumberPicked conds questions number values labels new_values new_labels
number_new conds questions number values new_values labels new_labels label is_new decides noted does put = record { label = label; decides = decides; put = inl (by noted) }
  where
    by : IsNoted is_new label labels new_labels → (new_values ≡ values ++ number ∷ []) × (new_labels ≡ labels ++ label ∷ [])
    by (inl p) = (put, p.1)
    by (inr p) = absurd (false≢true (sym p.0 ∙ does))

-- one number more was looked at
numbers_same : (conds : List AskedCond) (questions : List OpenQuestion) (numbers : List ℕ) (count : ℕ) (values : List ℕ) (labels : List (List ℕ))
    → (k : ℕ) × (k < length labels) × Decides conds questions (arg.Num (get_or numbers count 0)) (list_at labels k)
    → AreNumbersPicked conds questions numbers count values labels → AreNumbersPicked conds questions numbers (count + 1) values labels
numbers_same conds questions numbers count values labels here before = record {
  as_many = before.as_many;
  among = before.among;
  each = before.each;
  seen = λ j less. by j less (eqb j count) refl;
}
  where
    by : (j : ℕ) → j < count + 1 → (b : Bool) → eqb j count ≡ b → (k : ℕ) × (k < length labels) × Decides conds questions (arg.Num (get_or numbers j 0)) (list_at labels k)
    by j less true e =
        let same : count ≡ j = sym (eqb-true j count e) in
        (here.0, here.1, subst (λ n. Decides conds questions (arg.Num (get_or numbers n 0)) (list_at labels here.0)) same here.2)
    by j less false e = let below : j < count = grind (arith, nat_tests) in before.seen j below

numbers_put : (conds : List AskedCond) (questions : List OpenQuestion) (numbers : List ℕ) (count : ℕ) (values : List ℕ) (labels : List (List ℕ)) (label : List ℕ)
    → count < length numbers → Decides conds questions (arg.Num (get_or numbers count 0)) label
    → AreNumbersPicked conds questions numbers count values labels
    → AreNumbersPicked conds questions numbers count (values ++ get_or numbers count 0 ∷ []) (labels ++ label ∷ [])
numbers_put conds questions numbers count values labels label low decides before = record {
  as_many = length-append values (get_or numbers count 0 ∷ []) ∙ ap (λ n. n + 1) before.as_many ∙ sym (length-append labels (label ∷ []));
  among = λ k h. each_of (λ v l. (j : ℕ) × (j < length numbers) × (v ≡ get_or numbers j 0)) before.among (count, low, refl) k h;
  each = λ k h. each_of (λ v l. Decides conds questions (arg.Num v) l) before.each decides k h;
  seen = λ j less. let s = before.seen j less in
      let long : s.0 < length (labels ++ label ∷ []) = omega (arith, s.1, length-append labels (label ∷ [])) in
      (s.0, long, subst (Decides conds questions (arg.Num (get_or numbers j 0))) (sym (get_or_append_left labels (label ∷ []) [] s.0 s.1)) s.2);
}
  where
    each_of : (P : ℕ → List ℕ → Type 0) → ((k : ℕ) → k < length labels → P (get_or values k 0) (list_at labels k)) → P (get_or numbers count 0) label
        → (k : ℕ) → k < length (labels ++ label ∷ []) → P (get_or (values ++ get_or numbers count 0 ∷ []) k 0) (list_at (labels ++ label ∷ []) k)
    each_of P old last k h = by (eqb k (length labels)) refl
      where
        by : (b : Bool) → eqb k (length labels) ≡ b → P (get_or (values ++ get_or numbers count 0 ∷ []) k 0) (list_at (labels ++ label ∷ []) k)
        by true e =
            let same : length labels ≡ k = sym (eqb-true k (length labels) e) in
            subst (λ v. P v (list_at (labels ++ label ∷ []) k)) (sym (get_or_push values (get_or numbers count 0) 0 k (before.as_many ∙ same)))
            (subst (P (get_or numbers count 0)) (sym (get_or_push labels label [] k same)) last)
        by false e =
            let less : k < length labels = grind (arith, nat_tests, length-append labels (label ∷ [])) in
            let less_value : k < length values = omega (arith, less, before.as_many) in
            subst (λ v. P v (list_at (labels ++ label ∷ []) k)) (sym (get_or_append_left values (get_or numbers count 0 ∷ []) 0 k less_value))
            (subst (P (get_or values k 0)) (sym (get_or_append_left labels (label ∷ []) [] k less)) (old k less))

pub numbers_more : (conds : List AskedCond) (questions : List OpenQuestion) (numbers : List ℕ) (count : ℕ) (values new_values : List ℕ) (labels new_labels : List (List ℕ))
    → count < length numbers → IsNumberPicked conds questions (get_or numbers count 0) values labels new_values new_labels
    → AreNumbersPicked conds questions numbers count values labels → AreNumbersPicked conds questions numbers (count + 1) new_values new_labels
numbers_more conds questions numbers count values new_values labels new_labels low picked before = by picked.put
  where
    by : ((new_values ≡ values ++ get_or numbers count 0 ∷ []) × (new_labels ≡ labels ++ picked.label ∷ []))
        ⊎ ((new_values ≡ values) × (new_labels ≡ labels) × (k : ℕ) × (k < length labels) × (list_at labels k ≡ picked.label))
        → AreNumbersPicked conds questions numbers (count + 1) new_values new_labels
    by (inl p) =
        let put = numbers_put conds questions numbers count values labels picked.label low picked.decides before in
        let long : length labels < length (labels ++ picked.label ∷ []) = omega (arith, length-append labels (picked.label ∷ [])) in
        let whole = numbers_same conds questions numbers count (values ++ get_or numbers count 0 ∷ []) (labels ++ picked.label ∷ [])
        (length labels, long, subst (Decides conds questions (arg.Num (get_or numbers count 0))) (sym (get_or_push labels picked.label [] (length labels) refl)) picked.decides) put in
        subst (λ x. AreNumbersPicked conds questions numbers (count + 1) x new_labels) (sym p.0)
        (subst (AreNumbersPicked conds questions numbers (count + 1) (values ++ get_or numbers count 0 ∷ [])) (sym p.1) whole)
    by (inr p) =
        subst (λ x. AreNumbersPicked conds questions numbers (count + 1) x new_labels) (sym p.0)
        (subst (AreNumbersPicked conds questions numbers (count + 1) values) (sym p.1)
        (numbers_same conds questions numbers count values labels (p.2, p.3, subst (Decides conds questions (arg.Num (get_or numbers count 0))) (sym p.4) picked.decides) before))

-- nothing is known for sure
pub unknown : (fails holds : List Bool) (f : ℕ → Bool) → fails ≡ [] → holds ≡ [] → AreSure fails holds f
unknown fails holds f e h = record {
  failing = λ n is. absurd (false≢true (sym (get_or_past [] n false (omega arith)) ∙ sym (ap (λ l. get_or l n false) e) ∙ is));
  holding = λ n is. absurd (false≢true (sym (get_or_past [] n false (omega arith)) ∙ sym (ap (λ l. get_or l n false) h) ∙ is));
}

-- the numbers that were kept stand for all
pub numbers_are_choices : (conds : List AskedCond) (needed : List Bool) (questions : List OpenQuestion) (comparisons : List Comparison) (width : ℕ) (numbers values : List ℕ) (labels : List (List ℕ))
    → 2 ^ width ≤ 2 ^ 64 → ((f g : ℕ → Bool) → AgreeWhereNeeded needed f g → AllDecideAlike f g questions)
    → ((a b : ℕ) → a < 2 ^ 64 → b < 2 ^ 64 → CompareAlike comparisons a b → AgreeWhereNeeded needed (met conds (arg.Num a)) (met conds (arg.Num b)))
    → ((k : ℕ) → k < length numbers → get_or numbers k 0 < 2 ^ width) → AreNumbers comparisons width numbers
    → AreNumbersPicked conds questions numbers (length numbers) values labels → AreNumberChoices conds width questions values labels
numbers_are_choices conds needed questions comparisons width numbers values labels narrow alike agree below all picked = record {
  as_many = picked.as_many;
  fit = λ k h. let a = picked.among k h in subst (λ v. v < 2 ^ width) (sym a.2) (below a.0 a.1);
  each = picked.each;
  all = λ n low. let v = all n low in
      let h = v.1 in
      let there : get_or numbers h.0 0 ≡ v.0 = get_or_default numbers h.0 0 v.0 h.1 ∙ h.2 in
      let s = picked.seen h.0 h.1 in
      let one : n < 2 ^ 64 = omega (arith, low, narrow) in
      let two : v.0 < 2 ^ 64 = omega (arith, v.3, narrow) in
      let met_alike = alike (met conds (arg.Num n)) (met conds (arg.Num v.0)) (agree n v.0 one two (sym v.2)) in (
        s.0,
        s.1,
        alike_label (met conds (arg.Num n)) (met conds (arg.Num v.0)) questions (list_at labels s.0) met_alike
            (subst (λ m. Decides conds questions (arg.Num m) (list_at labels s.0)) there s.2),
      );
}
