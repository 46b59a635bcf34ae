-- A name resolves to a name.
use Rattle.std.proofs.Common.{◌≡◌, ◌∙◌, ℕ, zero, suc, ◌<◌, eqb, Bool, true, false, List, [], ◌∷◌, ◌++◌, length, take, drop, Option, None, Some, inl, inr, refl, subst, ap, sym, arith, append-nil}
use Rattle.std.specs.List.{list_all, onto_first}
use Rattle.std.proofs.lemmas.Bool.{and_parts, eqb-true, false≢true}
use Rattle.std.proofs.lemmas.List.{take-append-drop}
use Rattle.std.proofs.lemmas.List.Folds.{list_all-append}
use Rattle.std.proofs.lemmas.List.Splits.{length-slice_split, slice_split-cons_yes, slice_split-cons_no}
use Rattle.sb_base.specs.Names.{is_component, is_name_of, parts_of}
use Rattle.sb_base.specs.Wide.{is_same}
use Rattle.sb_link.specs.Links.{is_link, is_link_name}
use Rattle.sb_link.specs.Resolution.{applying, ends_component, is_under, replaced, resolve_within, most_steps}
use Rattle.sb_link.specs.ResolutionLaws.{IsAmong, NamesResolveToNames}
use Rattle.sb_link.specs.declared.links.Link.{Link}
use Rattle.sb_link.proofs.Adding.{both}
use Rattle.sb_link.proofs.Longest.{longest_is}
use Rattle.sb_link.proofs.Steps.{last_step, no_step, none_is_none, of_some, first_step}

onto_append : (x : ℕ) (parts more : List (List ℕ)) → 0 < length parts → onto_first x (parts ++ more) ≡ onto_first x parts ++ more
onto_append x [] more h = absurd (omega arith)
onto_append x (part ∷ parts) more h = refl

some_part : (us : List ℕ) → 0 < length (parts_of us)
some_part us = let e = length-slice_split (λ u. eqb u 92) us in omega arith

-- the parts before and after a `\`
parts_join : (t more : List ℕ) → parts_of (t ++ 92 ∷ more) ≡ parts_of t ++ parts_of more
parts_join [] more = refl
parts_join (x ∷ xs) more = by (eqb x 92) refl (parts_join xs more)
  where
    by : (b : Bool) → eqb x 92 ≡ b → parts_of (xs ++ 92 ∷ more) ≡ parts_of xs ++ parts_of more → parts_of (x ∷ xs ++ 92 ∷ more) ≡ parts_of (x ∷ xs) ++ parts_of more
    by true e h =
        slice_split-cons_yes (λ u. eqb u 92) x (xs ++ 92 ∷ more) e ∙ ap (λ ps. [] ∷ ps) h
        ∙ ap (λ ps. ps ++ parts_of more) (sym (slice_split-cons_yes (λ u. eqb u 92) x xs e))
    by false e h =
        slice_split-cons_no (λ u. eqb u 92) x (xs ++ 92 ∷ more) e ∙ ap (onto_first x) h ∙ onto_append x (parts_of xs) (parts_of more) (some_part xs)
        ∙ ap (λ ps. ps ++ parts_of more) (sym (slice_split-cons_no (λ u. eqb u 92) x xs e))

-- what is after a `\` of a name has components
after_has : (front more : List ℕ) → is_name_of (front ++ 92 ∷ more) ≡ true → list_all is_component (parts_of more) ≡ true
after_has [] more h = h
after_has (x ∷ xs) more h =
    let parts = (and_parts (eqb x 92) (list_all is_component (parts_of (xs ++ 92 ∷ more))) h).1 in
    (and_parts (list_all is_component (parts_of xs)) (list_all is_component (parts_of more))
    (sym (list_all-append is_component (parts_of xs) (parts_of more)) ∙ ap (list_all is_component) (sym (parts_join xs more)) ∙ parts)).1

joined : (to more : List ℕ) → is_name_of to ≡ true → list_all is_component (parts_of more) ≡ true → is_name_of (to ++ 92 ∷ more) ≡ true
joined [] more h k = absurd (false≢true h)
joined (x ∷ xs) more h k =
    let parts = and_parts (eqb x 92) (list_all is_component (parts_of xs)) h in
    both (eqb x 92) _ parts.0
    (ap (list_all is_component) (parts_join xs more) ∙ list_all-append is_component (parts_of xs) (parts_of more) ∙ both _ _ parts.1 k)

rest_joined : (to front rest : List ℕ) → is_name_of to ≡ true → is_name_of (front ++ rest) ≡ true → ends_component rest ≡ true → is_name_of (to ++ rest) ≡ true
rest_joined to front [] h k e = ap is_name_of (append-nil to) ∙ h
rest_joined to front (u ∷ more) h k e =
    let is : u ≡ 92 = eqb-true u 92 e in
    subst (λ v. is_name_of (to ++ v ∷ more) ≡ true) (sym is)
    (joined to more h (after_has front more (subst (λ v. is_name_of (front ++ v ∷ more) ≡ true) is k)))

-- a name in which the FROM of a link is replaced by a name is one
pub replaced_is_name : (name : List ℕ) (link : Link) → is_name_of link.to ≡ true → is_name_of name ≡ true → is_under link.from name ≡ true
    → is_name_of (replaced name link) ≡ true
replaced_is_name name link h k u =
    let n = length link.from in
    rest_joined link.to (take n name) (drop n name) h (ap is_name_of (take-append-drop n name) ∙ k)
    (and_parts (is_same link.from (take n name)) (ends_component (drop n name)) u).1

-- each link of a list leads to a name
leads : (links : List Link) (link : Link) → list_all is_link links ≡ true → IsAmong link links → is_name_of link.to ≡ true
leads [] link h m = absurd m
leads (first ∷ links) link h (inl e) =
    let whole = (and_parts (is_link first) (list_all is_link links) h).0 in
    let to = (and_parts (is_link_name first.from) (is_link_name first.to) whole).1 in
    subst (λ l. is_name_of l.to ≡ true) (sym e) (and_parts (is_name_of first.to) _ to).0
leads (first ∷ links) link h (inr m) = leads links link (and_parts (is_link first) (list_all is_link links) h).1 m

resolves : (links : List Link) (steps : ℕ) (name other : List ℕ) → list_all is_link links ≡ true → is_name_of name ≡ true
    → resolve_within steps links name ≡ Some other → is_name_of other ≡ true
resolves links zero name other h k e = by (applying links name) refl
  where
    by : (found : Option Link) → applying links name ≡ found → is_name_of other ≡ true
    by None f = subst (λ o. is_name_of o ≡ true) (of_some name other (sym (last_step links name 0 f) ∙ e)) k
    by (Some link) f = absurd (none_is_none other (sym (no_step links name link f) ∙ e))
resolves links (suc n) name other h k e = by (resolves links n) (applying links name) refl
  where
    by : ((before after : List ℕ) → list_all is_link links ≡ true → is_name_of before ≡ true → resolve_within n links before ≡ Some after → is_name_of after ≡ true)
        → (found : Option Link) → applying links name ≡ found → is_name_of other ≡ true
    by less None f = subst (λ o. is_name_of o ≡ true) (of_some name other (sym (last_step links name (suc n) f) ∙ e)) k
    by less (Some link) f =
        let longest = longest_is links name link f in
        less (replaced name link) other h (replaced_is_name name link (leads links link h longest.there) k longest.applies)
        (sym (first_step links name link n f) ∙ e)

pub names_resolve : NamesResolveToNames
names_resolve links name other are k e = resolves links most_steps name other are.named k e
