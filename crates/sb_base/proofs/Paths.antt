-- Names as paths of components.
use Rattle.std.proofs.Common.{◌≡◌, ◌∙◌, ℕ, Bool, true, false, eqb, cond, List, [], ◌∷◌, ◌++◌, drop, refl, ap, sym, arith, append-nil}
use Rattle.std.proofs.lemmas.Bool.{and_parts, eqb-true}
use Rattle.std.proofs.lemmas.Bool.Decides.{nat_tests}
use Rattle.std.proofs.lemmas.List.Splits.{slice_split-cons_no}
use Rattle.std.specs.List.{list_all, onto_first}
use Rattle.sb_base.specs.Names.{is_ordinary, ends_well, is_component, parts_of, path_of, PathsAreNames, PathsHaveTheirComponents, NamesArePaths}

not_cut : (u : ℕ) → is_ordinary u ≡ true → eqb u 92 ≡ false
not_cut u h = grind (arith, nat_tests)

ordinary : (c : List ℕ) → is_component c ≡ true → list_all is_ordinary c ≡ true
ordinary c h = (and_parts (ends_well c) (list_all is_ordinary c) h).1

-- ordinary units before a `\` are a part
cut_after : (c us : List ℕ) → list_all is_ordinary c ≡ true → parts_of (c ++ 92 ∷ us) ≡ c ∷ parts_of us
cut_after [] us h = refl
cut_after (x ∷ xs) us h =
    let p = and_parts (is_ordinary x) (list_all is_ordinary xs) h in
    slice_split-cons_no (λ u. eqb u 92) x (xs ++ 92 ∷ us) (not_cut x p.0) ∙ ap (onto_first x) (cut_after xs us p.1)

-- ordinary units are one part
cut_none : (c : List ℕ) → list_all is_ordinary c ≡ true → parts_of c ≡ c ∷ []
cut_none [] h = refl
cut_none (x ∷ xs) h =
    let p = and_parts (is_ordinary x) (list_all is_ordinary xs) h in
    slice_split-cons_no (λ u. eqb u 92) x xs (not_cut x p.0) ∙ ap (onto_first x) (cut_none xs p.1)

parts_of_path : (c : List ℕ) (cs : List (List ℕ)) → list_all is_component (c ∷ cs) ≡ true → parts_of (c ++ path_of cs) ≡ c ∷ cs
parts_of_path c [] h =
    ap parts_of (append-nil c) ∙ cut_none c (ordinary c (and_parts (is_component c) true h).0)
parts_of_path c (d ∷ ds) h =
    let p = and_parts (is_component c) (list_all is_component (d ∷ ds)) h in
    cut_after c (d ++ path_of ds) (ordinary c p.0) ∙ ap (λ l. c ∷ l) (parts_of_path d ds p.1)

pub paths_have_their_components : PathsHaveTheirComponents
paths_have_their_components c cs h = parts_of_path c cs h

pub paths_are_names : PathsAreNames
paths_are_names c cs h = ap (list_all is_component) (parts_of_path c cs h) ∙ h

-- a unit that is no cut goes to the first part
path_onto_first : (x : ℕ) (us : List ℕ) (parts : List (List ℕ)) → path_of parts ≡ 92 ∷ us → path_of (onto_first x parts) ≡ 92 ∷ x ∷ us
path_onto_first x us [] e = cc
path_onto_first x us (q ∷ qs) e = ap (λ l. 92 ∷ x ∷ drop 1 l) e

path_step : (x : ℕ) (us : List ℕ) (b : Bool) → eqb x 92 ≡ b → path_of (parts_of us) ≡ 92 ∷ us → path_of (cond b ([] ∷ parts_of us) (onto_first x (parts_of us))) ≡ 92 ∷ x ∷ us
path_step x us true t e = ap (λ l. 92 ∷ l) e ∙ ap (λ y. 92 ∷ y ∷ us) (sym (eqb-true x 92 t))
path_step x us false t e = path_onto_first x us (parts_of us) e

path_of_parts : (us : List ℕ) → path_of (parts_of us) ≡ 92 ∷ us
path_of_parts [] = refl
path_of_parts (x ∷ us) = path_step x us (eqb x 92) refl (path_of_parts us)

pub names_are_paths : NamesArePaths
names_are_paths [] h = cc
names_are_paths (u ∷ us) h =
    let p = and_parts (eqb u 92) (list_all is_component (parts_of us)) h in
    (p.1, path_of_parts us ∙ ap (λ y. y ∷ us) (sym (eqb-true u 92 p.0)))
