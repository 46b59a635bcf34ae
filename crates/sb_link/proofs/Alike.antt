-- Names that are the same resolve to names that are the same.
use Rattle.std.proofs.Common.{◌≡◌, ◌∙◌, ℕ, zero, suc, eqb, Bool, cond, ◌&&◌, map, List, [], ◌∷◌, ◌++◌, length, take, drop, Option, None, Some, refl, subst, ap, sym, arith}
use Rattle.std.proofs.lemmas.Bool.Decides.{nat_tests}
use Rattle.std.specs.Cmp.Lexicographic.{pointwise, bytes_decides}
use Rattle.sb_base.specs.Wide.{folded}
use Rattle.sb_link.specs.Resolution.{applying, ends_component, is_longer, is_under, longer, longest, replaced, resolve_within, most_steps}
use Rattle.sb_link.specs.ResolutionLaws.{AreSame, SameNamesResolveAlike}
use Rattle.sb_link.specs.declared.links.Link.{Link}
use Rattle.sb_link.proofs.Steps.{last_step, no_step, first_step}

backslash_folds : (u : ℕ) → eqb u 92 ≡ eqb (folded u) 92
backslash_folds u = grind (arith, nat_tests)

ends_fold : (us : List ℕ) → ends_component us ≡ ends_component (map folded us)
ends_fold [] = refl
ends_fold (u ∷ us) = backslash_folds u

take_fold : (n : ℕ) (us : List ℕ) → map folded (take n us) ≡ take n (map folded us)
take_fold zero us = refl
take_fold (suc n) [] = refl
take_fold (suc n) (u ∷ us) = ap (λ l. folded u ∷ l) (take_fold n us)

drop_fold : (n : ℕ) (us : List ℕ) → map folded (drop n us) ≡ drop n (map folded us)
drop_fold zero us = refl
drop_fold (suc n) [] = refl
drop_fold (suc n) (u ∷ us) = drop_fold n us

append_fold : (a b : List ℕ) → map folded (a ++ b) ≡ map folded a ++ map folded b
append_fold [] b = refl
append_fold (u ∷ us) b = ap (λ l. folded u ∷ l) (append_fold us b)

-- whether a link applies, by the folded name
abbrev under_folded : List ℕ → List ℕ → Bool
under_folded from units = pointwise eqb (map folded from) (take (length from) units) && ends_component (drop (length from) units)

under_by : (from name : List ℕ) → is_under from name ≡ under_folded from (map folded name)
under_by from name =
    ap (λ l. pointwise eqb (map folded from) l && ends_component (drop (length from) name)) (take_fold (length from) name)
    ∙ ap (λ b. pointwise eqb (map folded from) (take (length from) (map folded name)) && b)
    (ends_fold (drop (length from) name) ∙ ap ends_component (drop_fold (length from) name))

under_alike : (from name other : List ℕ) → map folded name ≡ map folded other → is_under from name ≡ is_under from other
under_alike from name other e = under_by from name ∙ ap (under_folded from) e ∙ sym (under_by from other)

abbrev chosen : Bool → Link → Option Link → Option Link
chosen b link found = cond b (Some link) found

longest_alike : (links : List Link) (found : Option Link) (name other : List ℕ) → map folded name ≡ map folded other
    → longest name found links ≡ longest other found links
longest_alike [] found name other e = refl
longest_alike (link ∷ links) found name other e =
    ap (λ f. longest name f links) (ap (λ b. chosen (b && is_longer found link) link found) (under_alike link.from name other e))
    ∙ longest_alike links (longer other found link) name other e

replaced_alike : (link : Link) (name other : List ℕ) → map folded name ≡ map folded other → map folded (replaced name link) ≡ map folded (replaced other link)
replaced_alike link name other e =
    let n = length link.from in
    append_fold link.to (drop n name) ∙ ap (λ l. map folded link.to ++ l) (drop_fold n name ∙ ap (drop n) e ∙ sym (drop_fold n other))
    ∙ sym (append_fold link.to (drop n other))

alike_by : (a b c d : Option (List ℕ)) → a ≡ c → b ≡ d → AreSame c d → AreSame a b
alike_by a b c d e f h = subst (λ x. AreSame x b) (sym e) (subst (AreSame c) (sym f) h)

resolve_alike : (links : List Link) (steps : ℕ) (name other : List ℕ) → map folded name ≡ map folded other
    → AreSame (resolve_within steps links name) (resolve_within steps links other)
resolve_alike links zero name other e = by (applying links name) refl
  where
    same : applying links name ≡ applying links other
    same = longest_alike links None name other e

    by : (found : Option Link) → applying links name ≡ found → AreSame (resolve_within 0 links name) (resolve_within 0 links other)
    by None f = alike_by _ _ _ _ (last_step links name 0 f) (last_step links other 0 (sym same ∙ f)) ((bytes_decides _ _).1 e)
    by (Some link) f = alike_by _ _ _ _ (no_step links name link f) (no_step links other link (sym same ∙ f)) tt
resolve_alike links (suc n) name other e = by (resolve_alike links n) (applying links name) refl
  where
    same : applying links name ≡ applying links other
    same = longest_alike links None name other e

    by : ((a b : List ℕ) → map folded a ≡ map folded b → AreSame (resolve_within n links a) (resolve_within n links b)) → (found : Option Link) → applying links name ≡ found
        → AreSame (resolve_within (suc n) links name) (resolve_within (suc n) links other)
    by less None f = alike_by _ _ _ _ (last_step links name (suc n) f) (last_step links other (suc n) (sym same ∙ f)) ((bytes_decides _ _).1 e)
    by less (Some link) f =
        alike_by _ _ _ _ (first_step links name link n f) (first_step links other link n (sym same ∙ f))
        (less (replaced name link) (replaced other link) (replaced_alike link name other e))

pub same_names_resolve : SameNamesResolveAlike
same_names_resolve links name other h = resolve_alike links most_steps name other ((bytes_decides _ _).0 h)
