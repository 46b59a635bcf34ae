-- One string for each label.
use Rattle.std.specs.Prelude.{Some, nat_eq}
use Rattle.std.specs.Cmp.Lexicographic.{pointwise, bytes_decides}
use Rattle.std.specs.List.{slice_get, list_all, list_any}
use Rattle.std.proofs.Common.{◌≡◌, ◌⊎◌, inl, inr, ◌∙◌, ◌≤◌, ◌<◌, ◌+◌, ◌/◌, ◌%◌, ℕ, Bool, true, false, cond, not, List, [], ◌∷◌, ◌++◌, ◌&&◌, ◌||◌, eqb, ltb, length, take, drop, get_or, refl, ap, sym, subst, arith, append-nil, length-append}
use Rattle.std.proofs.lemmas.Bool.{eqb-true, false≢true}
use Rattle.std.proofs.lemmas.Bool.Decides.{nat_tests}
use Rattle.std.proofs.lemmas.List.{get_or_append_left, get_or_past, get_or_push, get_or_read}
use Rattle.std.proofs.lemmas.List.Folds.{list_all-append, list_any_more}
use Rattle.std.proofs.lemmas.Option.{get_or_from_slice_get, slice_get_within}
use Rattle.sb_call.specs.declared.arguments.Arg.TheVariants as arg
use Rattle.sb_explore.specs.Exploring.{list_at, AreByLength, AreFound, AllReached}
use Rattle.sb_rule.specs.Matching.{matches}
use Rattle.sb_rule.specs.declared.cells.Cell.{Cell}
use Rattle.sb_cover.specs.AskedConds.{by_negation, cond_at, met, no_cond}
use Rattle.sb_cover.specs.Choices.{Decides, AreTexts, ArePicked, IsInPlace, IsNoted, IsPicked}
use Rattle.sb_cover.specs.Modes.{accepts, is_accepting}
use Rattle.sb_cover.specs.Positions.{cells_from, is_position_of, tells}
use Rattle.sb_cover.specs.Pruning.{is_true, IsLabel}
use Rattle.sb_cover.specs.Shown.{is_shown}
use Rattle.sb_cover.specs.TextMachines.{mode_in, positions_in, told, Tells, LeadsTo, StandsFor}
use Rattle.sb_cover.specs.declared.asked_conds.AskedCond.{AskedCond}
use Rattle.sb_cover.specs.declared.open_rules.OpenQuestion.{OpenQuestion}
use Rattle.sb_cover.proofs.LabelLemmas.{alike_label, same_alike}
use Rattle.sb_cover.proofs.ModeLemmas.{accepts_by_mode}

-- one position more that ends, and one that does not
by_end : (low e m told flag : Bool) → flag ≡ (low && told) → m ≡ true → (flag || (e && low)) ≡ (low && (told || (e && m)))
by_end true true m told flag f h = (λ i. f i || true) ∙ or_true told ∙ sym (ap (λ b. told || b) h ∙ or_true told)
  where
    or_true : (b : Bool) → (b || true) ≡ true
    or_true true = refl
    or_true false = refl
by_end true false m told flag f h = (λ i. f i || false)
by_end false true m told flag f h = (λ i. f i || false)
by_end false false m told flag f h = (λ i. f i || false)

by_no_end : (low e m told flag : Bool) → flag ≡ (low && told) → m ≡ false → flag ≡ (low && (told || (e && m)))
by_no_end true true m told flag f h = f ∙ or_none told ∙ ap (λ b. told || b) (sym h)
  where
    or_none : (b : Bool) → b ≡ (b || false)
    or_none true = refl
    or_none false = refl
by_no_end true false m told flag f h = f ∙ or_none told
  where
    or_none : (b : Bool) → b ≡ (b || false)
    or_none true = refl
    or_none false = refl
by_no_end false e m told flag f h = f

pub ended_one : (patterns : List (List Cell)) (positions : List ℕ) (i count : ℕ) (old new : List Bool) (n : ℕ) → i < length positions
    → is_true new n ≡ (is_true old n || (eqb (get_or positions i 0 / 512) n && ltb n count)) → matches (cells_from patterns (get_or positions i 0)) [] ≡ true
    → is_true old n ≡ (ltb n count && tells patterns (take i positions) n [])
    → is_true new n ≡ (ltb n count && tells patterns (take (i + 1) positions) n [])
ended_one patterns positions i count old new n low put ends before =
    put ∙ by_end (ltb n count) (eqb (get_or positions i 0 / 512) n) (matches (cells_from patterns (get_or positions i 0)) []) (tells patterns (take i positions) n []) (is_true old n) before ends
    ∙ ap (λ b. ltb n count && b) (sym (list_any_more (is_position_of patterns n []) positions i 0 low))

pub not_ended_one : (patterns : List (List Cell)) (positions : List ℕ) (i count : ℕ) (old : List Bool) (n : ℕ) → i < length positions
    → matches (cells_from patterns (get_or positions i 0)) [] ≡ false → is_true old n ≡ (ltb n count && tells patterns (take i positions) n [])
    → is_true old n ≡ (ltb n count && tells patterns (take (i + 1) positions) n [])
not_ended_one patterns positions i count old n low does_not before =
    by_no_end (ltb n count) (eqb (get_or positions i 0 / 512) n) (matches (cells_from patterns (get_or positions i 0)) []) (tells patterns (take i positions) n []) (is_true old n) before does_not
    ∙ ap (λ b. ltb n count && b) (sym (list_any_more (is_position_of patterns n []) positions i 0 low))

-- whether one condition more holds
pub truth_one : (conds : List AskedCond) (patterns : List (List Cell)) (positions : List ℕ) (truths matched : List Bool) (i : ℕ) (asked : AskedCond) (flag truth : Bool)
    → i < length conds → asked ≡ get_or conds i asked → length truths ≡ i → flag ≡ is_true matched i
    → ((n : ℕ) → is_true matched n ≡ (ltb n (length conds) && tells patterns positions n [])) → truth ≡ by_negation asked.cond.negated flag
    → ((n : ℕ) → n < i → is_true truths n ≡ told conds patterns positions [] n)
    → (n : ℕ) → n < i + 1 → is_true (truths ++ truth ∷ []) n ≡ told conds patterns positions [] n
truth_one conds patterns positions truths matched i asked flag truth low is many f all e before n less = by (eqb n i) refl
  where
    by : (b : Bool) → eqb n i ≡ b → is_true (truths ++ truth ∷ []) n ≡ told conds patterns positions [] n
    by true h =
        let same : i ≡ n = sym (eqb-true n i h) in
        let read : asked ≡ cond_at conds i = get_or_read conds i asked low is no_cond in
        subst (λ m. is_true (truths ++ truth ∷ []) m ≡ told conds patterns positions [] m) same
        (get_or_push truths truth false i many ∙ e ∙ (λ j. by_negation (read j).cond.negated ((f ∙ all i) j)))
    by false h =
        let below : n < i = grind (arith, nat_tests) in
        let inside : n < length truths = omega (arith, below, many) in
        get_or_append_left truths (truth ∷ []) false n inside ∙ before n below

pub truths_all : (conds : List AskedCond) (patterns : List (List Cell)) (positions : List ℕ) (truths : List Bool) (i : ℕ) → length conds ≤ i → length truths ≡ i → i ≤ length conds
    → ((n : ℕ) → n < i → is_true truths n ≡ told conds patterns positions [] n) → (n : ℕ) → is_true truths n ≡ told conds patterns positions [] n
truths_all conds patterns positions truths i past many within before n = by (ltb n i) refl
  where
    by : (b : Bool) → ltb n i ≡ b → is_true truths n ≡ told conds patterns positions [] n
    by true e = let low : n < i = grind (arith, nat_tests) in before n low
    by false e =
        let out : length truths ≤ n = grind (arith, nat_tests, many) in
        let out_conds : length conds ≤ n = grind (arith, nat_tests) in
        let does_not : ltb n (length conds) ≡ false = grind (arith, nat_tests) in
        get_or_past truths n false out
        ∙ sym ((λ j. by_negation (get_or_past conds n no_cond out_conds j).cond.negated (does_not j && tells patterns positions n [])))

-- a label that was noted
pub noted_new : (b is_new : Bool) (label : List ℕ) (old new : List (List ℕ)) → new ≡ cond b old (old ++ label ∷ []) → is_new ≡ not b → (stored : List ℕ) (k : ℕ)
    → slice_get new k ≡ Some stored → pointwise nat_eq label stored ≡ true → IsNoted is_new label old new
noted_new true is_new label old new e n stored k at_k same =
    let there : slice_get old k ≡ Some stored = ap (λ l. slice_get l k) (sym e) ∙ at_k in
    let is : list_at old k ≡ label = get_or_from_slice_get old k stored [] there ∙ sym ((bytes_decides label stored).0 same) in
    inr (n, e, k, slice_get_within old k stored there, is)
noted_new false is_new label old new e n stored k at_k same = inl (n, e)

nothing : (xs : List ℕ) → length xs ≡ 0 → xs ≡ []
nothing [] h = refl
nothing (x ∷ xs) h = absurd (omega (arith, h))

-- a state was looked at: it does not accept
pub picked_none : (conds : List AskedCond) (patterns : List (List Cell)) (questions : List OpenQuestion) (word state numbers positions : List ℕ) (mode : ℕ) (values labels : List (List ℕ))
    → numbers ≡ state → numbers ≡ mode ∷ positions → is_accepting mode ≡ false → IsPicked conds patterns questions word state values labels values labels
picked_none conds patterns questions word state numbers positions mode values labels same is does_not = record {
  unchanged = λ h. (refl, refl);
  picked = λ h. absurd (false≢true (sym does_not ∙ ap (λ s. is_accepting (mode_in s)) (sym is ∙ same) ∙ h));
}

pub picked_empty : (conds : List AskedCond) (patterns : List (List Cell)) (questions : List OpenQuestion) (word state numbers : List ℕ) (values labels : List (List ℕ))
    → numbers ≡ state → length numbers ≡ 0 → IsPicked conds patterns questions word state values labels values labels
picked_empty conds patterns questions word state numbers values labels same none = record {
  unchanged = λ h. (refl, refl);
  picked = λ h. absurd (false≢true (ap (λ s. is_accepting (mode_in s)) (sym (nothing numbers none) ∙ same) ∙ h));
}

-- it accepts
pub picked_old : (conds : List AskedCond) (patterns : List (List Cell)) (questions : List OpenQuestion) (word state numbers positions : List ℕ) (mode : ℕ) (values labels new_labels : List (List ℕ))
    (truths : List Bool) (label : List ℕ) (is_new : Bool) → numbers ≡ state → numbers ≡ mode ∷ positions → is_accepting mode ≡ true
    → ((n : ℕ) → is_true truths n ≡ told conds patterns positions [] n) → IsLabel (is_true truths) questions label → IsNoted is_new label labels new_labels → is_new ≡ false
    → IsPicked conds patterns questions word state values labels values new_labels
picked_old conds patterns questions word state numbers positions mode values labels new_labels truths label is_new same is does true_is labelled noted does_not =
    let whole : state ≡ mode ∷ positions = sym same ∙ is in
    record {
      unchanged = λ h. absurd (false≢true (sym h ∙ ap (λ s. is_accepting (mode_in s)) whole ∙ does));
      picked = λ h. (
        label,
        subst (λ s. IsLabel (told conds patterns (positions_in s) []) questions label) (sym whole)
            (alike_label (told conds patterns positions []) (is_true truths) questions label (same_alike (told conds patterns positions []) (is_true truths) questions (λ n. sym (true_is n))) labelled),
        inr (by noted),
      );
    }
  where
    by : IsNoted is_new label labels new_labels → (values ≡ values) × (new_labels ≡ labels) × (k : ℕ) × (k < length labels) × (list_at labels k ≡ label)
    by (inl p) = absurd (false≢true (sym does_not ∙ p.0))
    by (inr p) = (refl, p.1, p.2, p.3, p.4)

pub picked_new : (conds : List AskedCond) (patterns : List (List Cell)) (questions : List OpenQuestion) (word state numbers positions : List ℕ) (mode : ℕ)
    (values new_values labels new_labels : List (List ℕ)) (truths : List Bool) (label value : List ℕ) (is_new : Bool) → numbers ≡ state → numbers ≡ mode ∷ positions → is_accepting mode ≡ true
    → ((n : ℕ) → is_true truths n ≡ told conds patterns positions [] n) → IsLabel (is_true truths) questions label → IsNoted is_new label labels new_labels → is_new ≡ true
    → new_values ≡ values ++ value ∷ [] → IsInPlace conds word value → IsPicked conds patterns questions word state values labels new_values new_labels
picked_new conds patterns questions word state numbers positions mode values new_values labels new_labels truths label value is_new same is does true_is labelled noted new put in_place =
    let whole : state ≡ mode ∷ positions = sym same ∙ is in
    record {
      unchanged = λ h. absurd (false≢true (sym h ∙ ap (λ s. is_accepting (mode_in s)) whole ∙ does));
      picked = λ h. (
        label,
        subst (λ s. IsLabel (told conds patterns (positions_in s) []) questions label) (sym whole)
            (alike_label (told conds patterns positions []) (is_true truths) questions label (same_alike (told conds patterns positions []) (is_true truths) questions (λ n. sym (true_is n))) labelled),
        by noted,
      );
    }
  where
    by : IsNoted is_new label labels new_labels
        → ((value : List ℕ) × IsInPlace conds word value × (new_values ≡ values ++ value ∷ []) × (new_labels ≡ labels ++ label ∷ []))
        ⊎ ((new_values ≡ values) × (new_labels ≡ labels) × (k : ℕ) × (k < length labels) × (list_at labels k ≡ label))
    by (inl p) = inl (value, in_place, put, p.1)
    by (inr p) = absurd (false≢true (sym p.0 ∙ new))

-- the word of a state that accepts
pub word_decides : (conds : List AskedCond) (patterns : List (List Cell)) (questions : List OpenQuestion) (first : ℕ) (word state label : List ℕ)
    → LeadsTo conds patterns questions first word state → is_accepting (mode_in state) ≡ true → IsLabel (told conds patterns (positions_in state) []) questions label
    → (accepts first word ≡ true) × Decides conds questions (arg.Str word) label
word_decides conds patterns questions first word state label leads does labelled =
    let fits : accepts first word ≡ true = accepts_by_mode first word ∙ ap is_accepting (sym leads.mode) ∙ does in
    let tells = subst (λ l. Tells conds patterns questions l (positions_in state) []) (append-nil word) (leads.tells [] does) in
    (fits, alike_label (met conds (arg.Str word)) (told conds patterns (positions_in state) []) questions label tells labelled)

picked_first : (conds : List AskedCond) (patterns : List (List Cell)) (questions : List OpenQuestion) (first : ℕ) (words states : List (List ℕ))
    → ArePicked conds patterns questions first words states 0 [] []
picked_first conds patterns questions first words states = record {
  as_many = refl;
  fit = λ k h. absurd (omega (arith, h));
  each = λ k h. absurd (omega (arith, h));
  short = λ k m h. absurd (omega (arith, h));
  seen = λ j h. absurd (omega (arith, h));
}

-- the state after the first ones changed nothing
picked_same : (conds : List AskedCond) (patterns : List (List Cell)) (questions : List OpenQuestion) (first : ℕ) (words states : List (List ℕ)) (place : ℕ) (values labels : List (List ℕ))
    → (is_accepting (mode_in (list_at states place)) ≡ true → (k : ℕ) × (k < length labels) × IsLabel (told conds patterns (positions_in (list_at states place)) []) questions (list_at labels k)
    × (length (list_at values k) ≤ length (list_at words place)))
    → ArePicked conds patterns questions first words states place values labels → ArePicked conds patterns questions first words states (place + 1) values labels
picked_same conds patterns questions first words states place values labels here before = record {
  as_many = before.as_many;
  fit = before.fit;
  each = before.each;
  short = λ k m h less. before.short k m h (omega (arith, less));
  seen = λ j less does. by j does less (eqb j place) refl;
}
  where
    by : (j : ℕ) → is_accepting (mode_in (list_at states j)) ≡ true → j < place + 1 → (b : Bool) → eqb j place ≡ b
        → (k : ℕ) × (k < length labels) × IsLabel (told conds patterns (positions_in (list_at states j)) []) questions (list_at labels k) × (length (list_at values k) ≤ length (list_at words j))
    by j does less true e =
        let same : place ≡ j = sym (eqb-true j place e) in
        let h = here (ap (λ n. is_accepting (mode_in (list_at states n))) same ∙ does) in
        (h.0, h.1, subst (λ n. IsLabel (told conds patterns (positions_in (list_at states n)) []) questions (list_at labels h.0)) same h.2, omega (arith, h.3, ap (λ n. length (list_at words n)) same))
    by j does less false e = let below : j < place = grind (arith, nat_tests) in before.seen j below does

-- a string is put with its label
picked_put : (conds : List AskedCond) (patterns : List (List Cell)) (questions : List OpenQuestion) (first : ℕ) (words states : List (List ℕ)) (place : ℕ) (values labels : List (List ℕ))
    (value label : List ℕ) → AreByLength words → length value ≡ length (list_at words place) → accepts first value ≡ true → Decides conds questions (arg.Str value) label
    → ArePicked conds patterns questions first words states place values labels
    → ArePicked conds patterns questions first words states place (values ++ value ∷ []) (labels ++ label ∷ [])
picked_put conds patterns questions first words states place values labels value label order long fits decides before = record {
  as_many = length-append values (value ∷ []) ∙ ap (λ n. n + 1) before.as_many ∙ sym (length-append labels (label ∷ []));
  fit = λ k h. each_of (λ v l. accepts first v ≡ true) before.fit fits k h;
  each = λ k h. each_of (λ v l. Decides conds questions (arg.Str v) l) before.each decides k h;
  short = λ k m h less inside.
      each_of (λ v l. length v ≤ length (list_at words m)) (λ k h. before.short k m h less inside) (let o = order place m less inside in omega (arith, o, long)) k h;
  seen = λ j less does. let s = before.seen j less does in
      let longer : s.0 < length (labels ++ label ∷ []) = omega (arith, s.1, length-append labels (label ∷ [])) in
      let inside : s.0 < length values = omega (arith, s.1, before.as_many) in (
        s.0,
        longer,
        subst (IsLabel (told conds patterns (positions_in (list_at states j)) []) questions) (sym (get_or_append_left labels (label ∷ []) [] s.0 s.1)) s.2,
        omega (arith, ap length (get_or_append_left values (value ∷ []) [] s.0 inside), s.3),
      );
}
  where
    each_of : (P : List ℕ → List ℕ → Type 0) → ((k : ℕ) → k < length labels → P (list_at values k) (list_at labels k)) → P value label
        → (k : ℕ) → k < length (labels ++ label ∷ []) → P (list_at (values ++ value ∷ []) k) (list_at (labels ++ label ∷ []) k)
    each_of P old last k h = by (eqb k (length labels)) refl
      where
        by : (b : Bool) → eqb k (length labels) ≡ b → P (list_at (values ++ value ∷ []) k) (list_at (labels ++ label ∷ []) k)
        by true e =
            let same : length labels ≡ k = sym (eqb-true k (length labels) e) in
            subst (λ v. P v (list_at (labels ++ label ∷ []) k)) (sym (get_or_push values value [] k (before.as_many ∙ same)))
            (subst (P value) (sym (get_or_push labels label [] k same)) last)
        by false e =
            let less : k < length labels = grind (arith, nat_tests, length-append labels (label ∷ [])) in
            let less_value : k < length values = omega (arith, less, before.as_many) in
            subst (λ v. P v (list_at (labels ++ label ∷ []) k)) (sym (get_or_append_left values (value ∷ []) [] k less_value))
            (subst (P (list_at values k)) (sym (get_or_append_left labels (label ∷ []) [] k less)) (old k less))

-- one state more was looked at
pub picked_more : (conds : List AskedCond) (patterns : List (List Cell)) (questions : List OpenQuestion) (first : ℕ) (words states : List (List ℕ)) (place : ℕ) (values labels new_values new_labels : List (List ℕ))
    → AreByLength words → place < length words → LeadsTo conds patterns questions first (list_at words place) (list_at states place)
    → IsPicked conds patterns questions (list_at words place) (list_at states place) values labels new_values new_labels
    → ArePicked conds patterns questions first words states place values labels → ArePicked conds patterns questions first words states (place + 1) new_values new_labels
picked_more conds patterns questions first words states place values labels new_values new_labels order low leads picked before = by (is_accepting (mode_in (list_at states place))) refl
  where
    there : (v l : List (List ℕ)) → v ≡ values → l ≡ labels
        → (is_accepting (mode_in (list_at states place)) ≡ true → (k : ℕ) × (k < length labels)
        × IsLabel (told conds patterns (positions_in (list_at states place)) []) questions (list_at labels k) × (length (list_at values k) ≤ length (list_at words place)))
        → ArePicked conds patterns questions first words states (place + 1) v l
    there v l e f here =
        subst (λ x. ArePicked conds patterns questions first words states (place + 1) x l) (sym e)
        (subst (ArePicked conds patterns questions first words states (place + 1) values) (sym f) (picked_same conds patterns questions first words states place values labels here before))

    accepted : is_accepting (mode_in (list_at states place)) ≡ true → (label : List ℕ) → IsLabel (told conds patterns (positions_in (list_at states place)) []) questions label
        → ((value : List ℕ) × IsInPlace conds (list_at words place) value × (new_values ≡ values ++ value ∷ []) × (new_labels ≡ labels ++ label ∷ []))
        ⊎ ((new_values ≡ values) × (new_labels ≡ labels) × (k : ℕ) × (k < length labels) × (list_at labels k ≡ label))
        → ArePicked conds patterns questions first words states (place + 1) new_values new_labels
    accepted does label labelled (inl p) =
        let value = p.0 in
        let w = word_decides conds patterns questions first (list_at words place) (list_at states place) label leads does labelled in
        let decides : Decides conds questions (arg.Str value) label =
        alike_label (met conds (arg.Str value)) (met conds (arg.Str (list_at words place))) questions label
        (same_alike (met conds (arg.Str value)) (met conds (arg.Str (list_at words place))) questions p.1.same) w.1 in
        let put = picked_put conds patterns questions first words states place values labels value label order p.1.long (p.1.accepted first w.0) decides before in
        let longer : length labels < length (labels ++ label ∷ []) = omega (arith, length-append labels (label ∷ [])) in
        let whole = picked_same conds patterns questions first words states place (values ++ value ∷ []) (labels ++ label ∷ [])
        (λ h. (
          length labels,
          longer,
          subst (IsLabel (told conds patterns (positions_in (list_at states place)) []) questions) (sym (get_or_push labels label [] (length labels) refl)) labelled,
          omega (arith, ap length (get_or_push values value [] (length labels) before.as_many), p.1.long),
        )) put in
        subst (λ x. ArePicked conds patterns questions first words states (place + 1) x new_labels) (sym p.2)
        (subst (ArePicked conds patterns questions first words states (place + 1) (values ++ value ∷ [])) (sym p.3) whole)
    accepted does label labelled (inr p) =
        there new_values new_labels p.0 p.1
        (λ h. (p.2, p.3, subst (IsLabel (told conds patterns (positions_in (list_at states place)) []) questions) (sym p.4) labelled, before.short p.2 place p.3 (omega arith) low))

    by : (b : Bool) → is_accepting (mode_in (list_at states place)) ≡ b → ArePicked conds patterns questions first words states (place + 1) new_values new_labels
    by true e = let p = picked.picked e in accepted e p.0 p.1 p.2
    by false e = let p = picked.unchanged e in there new_values new_labels p.0 p.1 (λ h. absurd (false≢true (sym e ∙ h)))

-- all states were looked at
pub picked_all : (conds : List AskedCond) (patterns : List (List Cell)) (questions : List OpenQuestion) (first : ℕ) (words states : List (List ℕ)) (place count : ℕ) (values labels : List (List ℕ))
    → count ≤ place → length words ≤ count → ArePicked conds patterns questions first words states place values labels → ArePicked conds patterns questions first words states count values labels
picked_all conds patterns questions first words states place count values labels past few picked = record {
  as_many = picked.as_many;
  fit = picked.fit;
  each = picked.each;
  short = λ k m h less inside. absurd (omega (arith, less, inside, few));
  seen = λ j less. picked.seen j (omega (arith, less, past));
}

-- a string more that a script can have
pub shown_push : (values new : List (List ℕ)) (value : List ℕ) → new ≡ values ++ value ∷ [] → is_shown value ≡ true → list_all is_shown values ≡ true → list_all is_shown new ≡ true
shown_push values new value e one all = ap (list_all is_shown) e ∙ list_all-append is_shown values (value ∷ []) ∙ (λ i. all i && (one i && true))

-- the strings that were picked stand for all that are accepted
pub picked_stand : (conds : List AskedCond) (patterns : List (List Cell)) (questions : List OpenQuestion) (first : ℕ) (words states values labels : List (List ℕ))
    → AllReached (StandsFor conds patterns questions first) words states
    → ArePicked conds patterns questions first words states (length states) values labels → AreTexts conds first questions values labels
picked_stand conds patterns questions first words states values labels all picked = record {
  as_many = picked.as_many;
  fit = picked.fit;
  each = picked.each;
  all = λ units fits. let r = all units in
      let s = r.3 [] (ap (accepts first) (append-nil units) ∙ fits) in
      let k = picked.seen r.0 r.1 s.0 in
      let tells = subst (λ l. Tells conds patterns questions l (positions_in (list_at states r.0)) []) (append-nil units) s.1 in
      (k.0, k.1, alike_label (met conds (arg.Str units)) (told conds patterns (positions_in (list_at states r.0)) []) questions (list_at labels k.0) tells k.2, omega (arith, k.3, r.2));
}

-- the same, of what was read in steps
pub picked_stand_for : (conds : List AskedCond) (patterns : List (List Cell)) (questions : List OpenQuestion) (first : ℕ) (words read_words states read_states values labels : List (List ℕ))
    → read_words ≡ words → read_states ≡ states → AreFound (LeadsTo conds patterns questions first) words states → AreByLength words → AllReached (StandsFor conds patterns questions first) words states
    → (AreByLength read_words → ((k : ℕ) → k < length read_states → LeadsTo conds patterns questions first (list_at read_words k) (list_at read_states k))
    → ArePicked conds patterns questions first read_words read_states (length read_states) values labels)
    → AreTexts conds first questions values labels
picked_stand_for conds patterns questions first words read_words states read_states values labels w s found order all pick =
    let by_length : AreByLength read_words = subst AreByLength (sym w) order in
    let leads : (k : ℕ) → k < length read_states → LeadsTo conds patterns questions first (list_at read_words k) (list_at read_states k) =
    subst (λ x. (k : ℕ) → k < length read_states → LeadsTo conds patterns questions first (list_at x k) (list_at read_states k)) (sym w)
    (subst (λ x. (k : ℕ) → k < length x → LeadsTo conds patterns questions first (list_at words k) (list_at x k)) (sym s) found.each) in
    let picked : ArePicked conds patterns questions first words states (length states) values labels =
    subst (λ x. ArePicked conds patterns questions first x states (length states) values labels) w
    (subst (λ x. ArePicked conds patterns questions first read_words x (length x) values labels) s (pick by_length leads)) in
    picked_stand conds patterns questions first words states values labels all picked
