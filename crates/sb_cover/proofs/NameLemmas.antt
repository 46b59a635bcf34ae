-- The strings that are accepted from the first mode are the names.
use Rattle.std.specs.List.{list_all, onto_first}
use Rattle.std.proofs.Common.{◌≡◌, ◌∙◌, ◌<◌, ◌+◌, ◌-◌, ℕ, Bool, true, false, cond, not, List, [], ◌∷◌, ◌++◌, ◌&&◌, ◌||◌, eqb, ltb, leb, length, get_or, refl, ap, sym, arith, append_assoc, append-nil, length-append}
use Rattle.std.proofs.lemmas.Bool.{and_parts, eqb-true, false≢true}
use Rattle.std.proofs.lemmas.Bool.Decides.{nat_tests}
use Rattle.std.proofs.lemmas.List.{get_or_push}
use Rattle.std.proofs.lemmas.List.Folds.{list_all-append}
use Rattle.sb_base.specs.Names.{is_ordinary, ends_well, is_component, parts_of, is_name_of}
use Rattle.sb_cover.specs.Modes.{mode_after, mode_inside, is_accepting, accepts, NamesAreAccepted}
use Rattle.sb_cover.proofs.ModeLemmas.{never_accepts}

-- the units before the first part
abbrev glue : List ℕ → List (List ℕ) → List (List ℕ)
glue c [] = c ∷ []
glue c (part ∷ parts) = (c ++ part) ∷ parts

glue_onto : (c : List ℕ) (u : ℕ) (parts : List (List ℕ)) → glue c (onto_first u parts) ≡ glue (c ++ u ∷ []) parts
glue_onto c u [] = refl
glue_onto c u (part ∷ parts) = ap (λ p. p ∷ parts) (sym (append_assoc c (u ∷ []) part))

glue_first : (u : ℕ) (parts : List (List ℕ)) → glue [] (onto_first u parts) ≡ onto_first u parts
glue_first u [] = refl
glue_first u (part ∷ parts) = refl

glue_nothing : (us : List ℕ) → glue [] (parts_of us) ≡ parts_of us
glue_nothing [] = refl
glue_nothing (u ∷ us) = by (eqb u 92)
  where
    by : (b : Bool) → glue [] (cond b ([] ∷ parts_of us) (onto_first u (parts_of us))) ≡ cond b ([] ∷ parts_of us) (onto_first u (parts_of us))
    by true = refl
    by false = glue_first u (parts_of us)

-- a part with a unit more
ends_pushed : (c : List ℕ) (u : ℕ) → ends_well (c ++ u ∷ []) ≡ (not (eqb u 32) && not (eqb u 46))
ends_pushed c u =
    let long : length (c ++ u ∷ []) ≡ length c + 1 = length-append c (u ∷ []) in
    let before : length c ≡ length (c ++ u ∷ []) - 1 = omega (arith, long) in
    let last : get_or (c ++ u ∷ []) (length (c ++ u ∷ []) - 1) 0 ≡ u = get_or_push c u 0 (length (c ++ u ∷ []) - 1) before in
    let some : ltb 0 (length (c ++ u ∷ [])) ≡ true = grind (arith, nat_tests, long) in
    λ i. (some i && not (eqb (last i) 32)) && not (eqb (last i) 46)

inside_ends : (s d : Bool) → (not s && not d) ≡ eqb (cond (s || d) 4 3) 3
inside_ends true d = refl
inside_ends false true = refl
inside_ends false false = refl

-- the mode of the units of a part so far
record IsPart (c : List ℕ) (mode : ℕ) : Type 0 where
  ordinary : list_all is_ordinary c ≡ true
  ends : ends_well c ≡ eqb mode 3
  inside : (eqb mode 2 || (eqb mode 3 || eqb mode 4)) ≡ true
  bound : eqb mode 5 ≡ false
  begun : eqb mode 1 ≡ false

no_part : IsPart [] 2
no_part = record { ordinary = refl; ends = refl; inside = refl; bound = refl; begun = refl }

part_more : (c : List ℕ) (mode u : ℕ) → IsPart c mode → is_ordinary u ≡ true → IsPart (c ++ u ∷ []) (mode_inside u)
part_more c mode u part is = record {
  ordinary = list_all-append is_ordinary c (u ∷ []) ∙ (λ i. part.ordinary i && (is i && true));
  ends = ends_pushed c u ∙ inside_ends (eqb u 32) (eqb u 46);
  inside = in_mode (eqb u 32 || eqb u 46);
  bound = not_free (eqb u 32 || eqb u 46);
  begun = not_begun (eqb u 32 || eqb u 46);
}
  where
    in_mode : (b : Bool) → (eqb (cond b 4 3) 2 || (eqb (cond b 4 3) 3 || eqb (cond b 4 3) 4)) ≡ true
    in_mode true = refl
    in_mode false = refl

    not_free : (b : Bool) → eqb (cond b 4 3) 5 ≡ false
    not_free true = refl
    not_free false = refl

    not_begun : (b : Bool) → eqb (cond b 4 3) 1 ≡ false
    not_begun true = refl
    not_begun false = refl

or_false : (b : Bool) → (b || false) ≡ b
or_false true = refl
or_false false = refl

and_true : (b : Bool) → (b && true) ≡ b
and_true true = refl
and_true false = refl

and_false : (b : Bool) → (b && false) ≡ false
and_false true = refl
and_false false = refl

-- whether a part is a component
part_component : (c : List ℕ) (mode : ℕ) → IsPart c mode → is_component (c ++ []) ≡ eqb mode 3
part_component c mode part = ap is_component (append-nil c) ∙ (λ i. part.ends i && part.ordinary i) ∙ and_true (eqb mode 3)

-- a part with a unit that is not ordinary
no_component : (c : List ℕ) (u : ℕ) (part : List ℕ) → is_ordinary u ≡ false → is_component (c ++ u ∷ part) ≡ false
no_component c u part bad =
    (λ i. ends_well (c ++ u ∷ part) && (list_all-append is_ordinary c (u ∷ part) ∙ (λ j. list_all is_ordinary c && (bad j && list_all is_ordinary part)) ∙ and_false (list_all is_ordinary c)) i)
    ∙ and_false (ends_well (c ++ u ∷ part))

no_components : (c : List ℕ) (u : ℕ) (parts : List (List ℕ)) → is_ordinary u ≡ false → list_all is_component (glue c (onto_first u parts)) ≡ false
no_components c u [] bad = ap (λ b. b && true) (no_component c u [] bad)
no_components c u (part ∷ parts) bad = ap (λ b. b && list_all is_component parts) (no_component c u part bad)

accepts_parts : (us c : List ℕ) (mode : ℕ) → IsPart c mode → accepts mode us ≡ list_all is_component (glue c (parts_of us))
accepts_parts [] c mode part =
    ap (λ b. eqb mode 3 || b) part.bound ∙ or_false (eqb mode 3) ∙ sym (part_component c mode part) ∙ sym (and_true (is_component (c ++ [])))
accepts_parts (u ∷ us) c mode part =
    ap (λ b. accepts (cond b 5 (cond (eqb u 92) (cond (eqb mode 1 || eqb mode 3) 2 0) (cond (is_ordinary u && (eqb mode 2 || (eqb mode 3 || eqb mode 4))) (mode_inside u) 0))) us) part.bound
    ∙ by (eqb u 92) (is_ordinary u) (eqb mode 3) refl refl refl
    (accepts_parts us [] 2 no_part ∙ ap (list_all is_component) (glue_nothing us))
    (λ is. accepts_parts us (c ++ u ∷ []) (mode_inside u) (part_more c mode u part is) ∙ ap (list_all is_component) (sym (glue_onto c u (parts_of us))))
  where
    by : (cut ordinary ended : Bool) → eqb u 92 ≡ cut → is_ordinary u ≡ ordinary → eqb mode 3 ≡ ended
        → accepts 2 us ≡ list_all is_component (parts_of us)
        → (is_ordinary u ≡ true → accepts (mode_inside u) us ≡ list_all is_component (glue c (onto_first u (parts_of us))))
        → accepts (cond cut (cond (eqb mode 1 || eqb mode 3) 2 0) (cond (ordinary && (eqb mode 2 || (eqb mode 3 || eqb mode 4))) (mode_inside u) 0)) us
        ≡ list_all is_component (glue c (cond cut ([] ∷ parts_of us) (onto_first u (parts_of us))))
    by true ordinary true e o m cut_after inside =
        (λ i. accepts (cond (part.begun i || m i) 2 0) us) ∙ cut_after ∙ sym (ap (λ b. b && list_all is_component (parts_of us)) (part_component c mode part ∙ m))
    by true ordinary false e o m cut_after inside =
        (λ i. accepts (cond (part.begun i || m i) 2 0) us) ∙ never_accepts us ∙ sym (ap (λ b. b && list_all is_component (parts_of us)) (part_component c mode part ∙ m))
    by false true ended e o m cut_after inside =
        ap (λ b. accepts (cond b (mode_inside u) 0) us) part.inside ∙ inside o
    by false false ended e o m cut_after inside = never_accepts us ∙ sym (no_components c u (parts_of us) o)

first_mode : (cut ordinary : Bool) (x : ℕ) → cond cut 2 (cond (ordinary && false) x 0) ≡ cond cut 2 0
first_mode true ordinary x = refl
first_mode false true x = refl
first_mode false false x = refl

pub names_are_accepted : NamesAreAccepted
names_are_accepted [] = refl
names_are_accepted (u ∷ us) = ap (λ mode. accepts mode us) (first_mode (eqb u 92) (is_ordinary u) (mode_inside u)) ∙ by (eqb u 92)
  where
    by : (cut : Bool) → accepts (cond cut 2 0) us ≡ (cut && list_all is_component (parts_of us))
    by true = accepts_parts us [] 2 no_part ∙ ap (list_all is_component) (glue_nothing us)
    by false = never_accepts us
