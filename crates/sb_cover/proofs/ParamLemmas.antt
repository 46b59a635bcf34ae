-- Values of a parameter stand for all.
use Rattle.std.specs.List.{list_all}
use Rattle.std.specs.Prelude.{IfSome}
use Rattle.std.proofs.Common.{◌≡◌, ◌∙◌, ◌≤◌, ◌<◌, ◌+◌, ◌^◌, ℕ, Bool, true, false, Option, None, Some, List, [], ◌∷◌, ◌++◌, ◌&&◌, ltb, length, map, get_or, refl, ap, sym, subst, arith}
use Rattle.std.proofs.lemmas.Bool.{and_parts, false≢true}
use Rattle.std.proofs.lemmas.Bool.Decides.{nat_tests}
use Rattle.std.proofs.lemmas.List.{get_or-map, length-map}
use Rattle.sb_call.specs.Arguments.{arg_at, fits_kind}
use Rattle.sb_call.specs.declared.arguments.Arg.{Arg}
use Rattle.sb_call.specs.declared.arguments.Arg.TheVariants as arg
use Rattle.sb_call.specs.declared.tags.ParamKind.TheVariants.{Text, Name, Num, Handle}
use Rattle.sb_explore.specs.Exploring.{list_at}
use Rattle.sb_cover.specs.Choices.{Decides, AreChoices, AreTexts, AreNumberChoices, AreTextArgs, AreNumberArgs, is_passable, is_shown_arg, units_in}
use Rattle.sb_cover.specs.Shown.{is_shown}
use Rattle.sb_cover.specs.Modes.{accepts, NamesAreAccepted}
use Rattle.sb_cover.specs.declared.asked_conds.AskedCond.{AskedCond}
use Rattle.sb_cover.specs.declared.open_rules.OpenQuestion.{OpenQuestion}

any_accepts : (units : List ℕ) → accepts 5 units ≡ true
any_accepts [] = refl
any_accepts (u ∷ us) = any_accepts us

text_at : (values : List (List ℕ)) (k : ℕ) → k < length values → arg_at (map arg.Str values) k ≡ arg.Str (list_at values k)
text_at values k low = get_or-map arg.Str values k [] (arg.Num 0) low

number_at : (values : List ℕ) (k : ℕ) → k < length values → arg_at (map arg.Num values) k ≡ arg.Num (get_or values k 0)
number_at values k low = get_or-map arg.Num values k 0 (arg.Num 0) low

pub texts_of_kind : (conds : List AskedCond) (questions : List OpenQuestion) (args : List Arg) (labels : List (List ℕ)) → AreTextArgs conds 5 questions args labels
    → AreChoices conds Text questions args labels
texts_of_kind conds questions args labels are = subst (λ l. AreChoices conds Text questions l labels) (sym are.1) (whole are.0 are.2)
  where
    whole : (values : List (List ℕ)) → AreTexts conds 5 questions values labels → AreChoices conds Text questions (map arg.Str values) labels
    whole values t = record {
      as_many = length-map values arg.Str ∙ t.as_many;
      fit = λ k h. ap (fits_kind Text) (text_at values k (omega (arith, h, t.as_many)));
      each = λ k h. subst (λ a. Decides conds questions a (list_at labels k)) (sym (text_at values k (omega (arith, h, t.as_many)))) (t.each k h);
      all = all;
    }
      where
        all : (other : Arg) → is_passable other ≡ true → fits_kind Text other ≡ true
            → (k : ℕ) × (k < length labels) × Decides conds questions other (list_at labels k) × (units_in (arg_at (map arg.Str values) k) ≤ units_in other)
        all (arg.Num number) small fits = absurd (false≢true fits)
        all (arg.Str units) small fits =
            let s = t.all units (any_accepts units) in
            (s.0, s.1, s.2, omega (arith, ap units_in (text_at values s.0 (omega (arith, s.1, t.as_many))), s.3))

pub names_of_kind : NamesAreAccepted → (conds : List AskedCond) (questions : List OpenQuestion) (args : List Arg) (labels : List (List ℕ)) → AreTextArgs conds 1 questions args labels
    → AreChoices conds Name questions args labels
names_of_kind law conds questions args labels are = subst (λ l. AreChoices conds Name questions l labels) (sym are.1) (whole are.0 are.2)
  where
    whole : (values : List (List ℕ)) → AreTexts conds 1 questions values labels → AreChoices conds Name questions (map arg.Str values) labels
    whole values t = record {
      as_many = length-map values arg.Str ∙ t.as_many;
      fit = λ k h. ap (fits_kind Name) (text_at values k (omega (arith, h, t.as_many))) ∙ sym (law (list_at values k)) ∙ t.fit k h;
      each = λ k h. subst (λ a. Decides conds questions a (list_at labels k)) (sym (text_at values k (omega (arith, h, t.as_many)))) (t.each k h);
      all = all;
    }
      where
        all : (other : Arg) → is_passable other ≡ true → fits_kind Name other ≡ true
            → (k : ℕ) × (k < length labels) × Decides conds questions other (list_at labels k) × (units_in (arg_at (map arg.Str values) k) ≤ units_in other)
        all (arg.Num number) small fits = absurd (false≢true fits)
        all (arg.Str units) small fits =
            let s = t.all units (law units ∙ fits) in
            (s.0, s.1, s.2, omega (arith, ap units_in (text_at values s.0 (omega (arith, s.1, t.as_many))), s.3))

pub nums_of_kind : (conds : List AskedCond) (questions : List OpenQuestion) (args : List Arg) (labels : List (List ℕ)) → AreNumberArgs conds 32 questions args labels
    → AreChoices conds Num questions args labels
nums_of_kind conds questions args labels are = subst (λ l. AreChoices conds Num questions l labels) (sym are.1) (whole are.0 are.2)
  where
    whole : (values : List ℕ) → AreNumberChoices conds 32 questions values labels → AreChoices conds Num questions (map arg.Num values) labels
    whole values t = record {
      as_many = length-map values arg.Num ∙ t.as_many;
      fit = λ k h. ap (fits_kind Num) (number_at values k (omega (arith, h, t.as_many))) ∙ below (get_or values k 0) (t.fit k h);
      each = λ k h. subst (λ a. Decides conds questions a (list_at labels k)) (sym (number_at values k (omega (arith, h, t.as_many)))) (t.each k h);
      all = all;
    }
      where
        below : (n : ℕ) → n < 2 ^ 32 → ltb n (2 ^ 32) ≡ true
        below n low = grind (arith, nat_tests)

        all : (other : Arg) → is_passable other ≡ true → fits_kind Num other ≡ true
            → (k : ℕ) × (k < length labels) × Decides conds questions other (list_at labels k) × (units_in (arg_at (map arg.Num values) k) ≤ units_in other)
        all (arg.Str units) small fits = absurd (false≢true fits)
        all (arg.Num number) small fits =
            let low : number < 2 ^ 32 = grind (arith, nat_tests, fits) in
            let s = t.all number low in
            (s.0, s.1, s.2, omega (arith, ap units_in (number_at values s.0 (omega (arith, s.1, t.as_many)))))

pub handles_of_kind : (conds : List AskedCond) (questions : List OpenQuestion) (args : List Arg) (labels : List (List ℕ)) → AreNumberArgs conds 64 questions args labels
    → AreChoices conds Handle questions args labels
handles_of_kind conds questions args labels are = subst (λ l. AreChoices conds Handle questions l labels) (sym are.1) (whole are.0 are.2)
  where
    whole : (values : List ℕ) → AreNumberChoices conds 64 questions values labels → AreChoices conds Handle questions (map arg.Num values) labels
    whole values t = record {
      as_many = length-map values arg.Num ∙ t.as_many;
      fit = λ k h. ap (fits_kind Handle) (number_at values k (omega (arith, h, t.as_many)));
      each = λ k h. subst (λ a. Decides conds questions a (list_at labels k)) (sym (number_at values k (omega (arith, h, t.as_many)))) (t.each k h);
      all = all;
    }
      where
        all : (other : Arg) → is_passable other ≡ true → fits_kind Handle other ≡ true
            → (k : ℕ) × (k < length labels) × Decides conds questions other (list_at labels k) × (units_in (arg_at (map arg.Num values) k) ≤ units_in other)
        all (arg.Str units) small fits = absurd (false≢true fits)
        all (arg.Num number) small fits =
            let low : number < 2 ^ 64 = grind (arith, nat_tests, small) in
            let s = t.all number low in
            (s.0, s.1, s.2, omega (arith, ap units_in (number_at values s.0 (omega (arith, s.1, t.as_many)))))

-- strings that a script can have, and numbers
pub shown_texts : (values : List (List ℕ)) → list_all is_shown values ≡ true → list_all is_shown_arg (map arg.Str values) ≡ true
shown_texts [] all = refl
shown_texts (v ∷ values) all =
    let p = and_parts (is_shown v) (list_all is_shown values) all in λ i. p.0 i && shown_texts values p.1 i

pub shown_numbers : (values : List ℕ) → list_all is_shown_arg (map arg.Num values) ≡ true
shown_numbers [] = refl
shown_numbers (v ∷ values) = shown_numbers values

-- what holds of a value that is there, if another thing does
pub if_some : {X : Type 0} → (o : Option X) (P Q : X → Type 0) → ((x : X) → P x → Q x) → IfSome o P → IfSome o Q
if_some None P Q f h = h
if_some (Some x) P Q f h = f x h
