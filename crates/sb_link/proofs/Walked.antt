-- The walk over the index finds the link that applies.
use Rattle.std.proofs.Common.{◌≡◌, ◌∙◌, ℕ, zero, suc, ◌+◌, ◌<◌, ◌≤◌, eqb, ltb, Bool, true, false, not, ◌&&◌, cond, List, [], ◌∷◌, length, take, drop, Option, None, Some, inl, inr, refl, subst, ap, sym, arith}
use Rattle.std.proofs.lemmas.Bool.{eqb-true, false≢true}
use Rattle.std.proofs.lemmas.Bool.Decides.{nat_tests}
use Rattle.std.specs.Prelude.{slice_get}
use Rattle.sb_base.specs.Wide.{folded, is_same}
use Rattle.sb_link.specs.Resolution.{applying, ends_component, is_longer, is_under, longer, longest}
use Rattle.sb_link.specs.ResolutionLaws.{IsAmong}
use Rattle.sb_link.specs.SortedFroms.{AreIndexed, Shows, common, differs, entry_after, from_at, is_other, is_whole, longer_at, longer_by, next_common, next_unit, walked}
use Rattle.sb_link.specs.declared.links.Link.{Link}
use Rattle.sb_link.specs.declared.sorted_froms.SortedFrom.{SortedFrom}
use Rattle.sb_link.proofs.Order.{same_applies}

-- ---- what one FROM and the next have in common

shifted : (k c y z : ℕ) (ys zs : List ℕ) → next_common (suc k) (suc c) (y ∷ ys) (z ∷ zs) ≡ suc (next_common k c ys zs)
shifted k c y z ys zs = grind (arith, nat_tests)

none_more : (n : ℕ) → 0 + n ≡ n
none_more n = omega arith

common_next : (before from name : List ℕ) → next_common (common before from) (common before name) from name ≡ common from name
common_next [] from name = none_more (common from name)
common_next (x ∷ xs) [] name = grind (arith, nat_tests)
common_next (x ∷ xs) (y ∷ ys) [] = grind (arith, nat_tests)
common_next (x ∷ xs) (y ∷ ys) (z ∷ zs) =
    by (eqb (folded x) (folded y)) (eqb (folded x) (folded z)) (eqb (folded y) (folded z)) refl refl refl (common_next xs ys zs)
  where
    by : (p q r : Bool) → eqb (folded x) (folded y) ≡ p → eqb (folded x) (folded z) ≡ q → eqb (folded y) (folded z) ≡ r
        → next_common (common xs ys) (common xs zs) ys zs ≡ common ys zs
        → next_common (common (x ∷ xs) (y ∷ ys)) (common (x ∷ xs) (z ∷ zs)) (y ∷ ys) (z ∷ zs) ≡ common (y ∷ ys) (z ∷ zs)
    by true true true e f g h = rw (e, f, g) (shifted (common xs ys) (common xs zs) y z ys zs ∙ ap suc h)
    by true true false e f g h = absurd (grind (arith, nat_tests))
    by true false true e f g h = absurd (grind (arith, nat_tests))
    by true false false e f g h = rw (e, f, g) (grind (arith, nat_tests))
    by false true true e f g h = absurd (grind (arith, nat_tests))
    by false true false e f g h = rw (e, f, g) (grind (arith, nat_tests))
    by false false r e f g h = rw (e, f) (none_more (common (y ∷ ys) (z ∷ zs)))

-- ---- when a link applies

not_zero : (n : ℕ) → false ≡ eqb 0 (suc n)
not_zero n = grind (arith, nat_tests)

next_equal : (a b : ℕ) → eqb a b ≡ eqb (suc a) (suc b)
next_equal a b = grind (arith, nat_tests)

same_front : (from name : List ℕ) → is_same from (take (length from) name) ≡ eqb (common from name) (length from)
same_front [] name = refl
same_front (x ∷ xs) [] = not_zero (length xs)
same_front (x ∷ xs) (y ∷ ys) = by (eqb (folded x) (folded y)) (same_front xs ys)
  where
    by : (b : Bool) → is_same xs (take (length xs) ys) ≡ eqb (common xs ys) (length xs)
        → (b && is_same xs (take (length xs) ys)) ≡ eqb (cond b (suc (common xs ys)) 0) (length (x ∷ xs))
    by true h = h ∙ next_equal (common xs ys) (length xs)
    by false h = not_zero (length xs)

whole_is_under : (from name : List ℕ) → is_whole (common from name) from name ≡ is_under from name
whole_is_under from name = by (eqb (common from name) (length from)) refl
  where
    by : (b : Bool) → eqb (common from name) (length from) ≡ b → is_whole (common from name) from name ≡ is_under from name
    by true e =
        ap (λ n. eqb (common from name) (length from) && ends_component (drop n name)) (eqb-true (common from name) (length from) e)
        ∙ ap (λ t. t && ends_component (drop (length from) name)) (sym (same_front from name))
    by false e =
        ap (λ t. t && ends_component (drop (common from name) name)) e
        ∙ sym (ap (λ t. t && ends_component (drop (length from) name)) (same_front from name ∙ e))

abbrev chosen : Bool → Link → Option Link → Option Link
chosen b link found = cond b (Some link) found

longer_same : (name : List ℕ) (found : Option Link) (link : Link) → longer_by (common link.from name) name found link ≡ longer name found link
longer_same name found link = ap (λ b. chosen (b && is_longer found link) link found) (whole_is_under link.from name)

-- ---- a FROM that differs from the name where the FROM before it does

common_fits : (a b : List ℕ) → common a b ≤ length b
common_fits [] b = omega arith
common_fits (x ∷ xs) [] = omega arith
common_fits (x ∷ xs) (y ∷ ys) = by (eqb (folded x) (folded y)) (common_fits xs ys)
  where
    by : (b : Bool) → common xs ys ≤ length ys → cond b (suc (common xs ys)) 0 ≤ length (y ∷ ys)
    by true h = omega arith
    by false h = omega arith

drop_has : (n : ℕ) (xs : List ℕ) → 0 < length (drop n xs) → n < length xs
drop_has zero xs h = h
drop_has (suc n) [] h = absurd (omega arith)
drop_has (suc n) (x ∷ xs) h = let more = drop_has n xs h in omega arith

-- what is left of a FROM and of a name
other_here : (from name : List ℕ) → is_other (next_unit from) (next_unit name) ≡ true → (common from name ≡ 0) × (0 < length from)
other_here [] name h = absurd (false≢true h)
other_here (x ∷ xs) [] h = (refl, omega arith)
other_here (x ∷ xs) (y ∷ ys) h = by (eqb (folded x) (folded y)) h
  where
    by : (b : Bool) → not b ≡ true → (cond b (suc (common xs ys)) 0 ≡ 0) × (0 < length (x ∷ xs))
    by true k = absurd (false≢true k)
    by false k = (refl, omega arith)

-- it has as much in common with the name, and that is not the whole of it
abbrev Stays : ℕ → ℕ → List ℕ → List ℕ → Type 0
Stays shared count from name = (next_common shared count from name ≡ count) × (count < length from)

other_stays : (shared count : ℕ) (from name : List ℕ) → shared ≡ count → is_other (next_unit (drop shared from)) (next_unit (drop count name)) ≡ true
    → Stays shared count from name
other_stays shared count from name e h =
    let here = other_here (drop count from) (drop count name) (subst (λ n. is_other (next_unit (drop n from)) (next_unit (drop count name)) ≡ true) e h) in
    (grind (arith, nat_tests), drop_has count from here.1)

less_stays : (shared count : ℕ) (from name : List ℕ) → ltb count shared ≡ true → shared ≤ length from → Stays shared count from name
less_stays shared count from name h k = (grind (arith, nat_tests), grind (arith, nat_tests))

differing_stays : (before from name : List ℕ) (place : ℕ) → differs (common before name) (next_unit (drop (common before name) name)) (entry_after before place from) ≡ true
    → Stays (common before from) (common before name) from name
differing_stays before from name place h = by (eqb (common before from) (common before name)) refl h
  where
    by : (b : Bool) → eqb (common before from) (common before name) ≡ b
        → cond b (is_other (next_unit (drop (common before from) from)) (next_unit (drop (common before name) name))) (ltb (common before name) (common before from)) ≡ true
        → Stays (common before from) (common before name) from name
    by true e k = other_stays (common before from) (common before name) from name (eqb-true (common before from) (common before name) e) k
    by false e k = less_stays (common before from) (common before name) from name k (common_fits before from)

less_is_other : (n m : ℕ) → n < m → eqb n m ≡ false
less_is_other n m h = grind (arith, nat_tests)

not_whole : (n : ℕ) (name : List ℕ) (found : Option Link) (link : Link) → n < length link.from → longer_by n name found link ≡ found
not_whole n name found link h =
    ap (λ b. chosen ((b && ends_component (drop n name)) && is_longer found link) link found) (less_is_other n (length link.from) h)

-- ---- the walk

-- what is in the place of a link: its FROM, and the longer of what was found so far and of it
abbrev from_of : Option Link → List ℕ
from_of at = elim at [ None ↦ [] | Some link ↦ link.from ]

abbrev longer_of : ℕ → List ℕ → Option Link → Option Link → Option Link
longer_of count name found at = elim at [ None ↦ found | Some link ↦ longer_by count name found link ]

-- the walk from an entry on, by whether its FROM differs
abbrev walked_by : Bool → List Link → List ℕ → ℕ → Option Link → ℕ → ℕ → List SortedFrom → Option Link
walked_by differs links name count found shared place es =
    cond differs (walked links name count found es)
    (walked links name (next_common shared count (from_at links place) name)
    (longer_at links place (next_common shared count (from_at links place) name) name found) es)

one_walked : (links : List Link) (name before : List ℕ) (found : Option Link) (place : ℕ) (link : Link) (es : List SortedFrom) → slice_get links place ≡ Some link
    → (b : Bool) → differs (common before name) (next_unit (drop (common before name) name)) (entry_after before place link.from) ≡ b
    → walked links name (common before name) found (entry_after before place link.from ∷ es)
    ≡ walked links name (common link.from name) (longer name found link) es
one_walked links name before found place link es h true d =
    let stays = differing_stays before link.from name place d in
    let same : common link.from name ≡ common before name = sym (common_next before link.from name) ∙ stays.0 in
    let none : longer name found link ≡ found =
    sym (longer_same name found link) ∙ ap (λ n. longer_by n name found link) same ∙ not_whole (common before name) name found link stays.1 in
    ap (λ b. walked_by b links name (common before name) found (common before link.from) place es) d
    ∙ ap (λ f. walked links name (common before name) f es) (sym none) ∙ ap (λ n. walked links name n (longer name found link) es) (sym same)
one_walked links name before found place link es h false d =
    let from : from_at links place ≡ link.from = ap from_of h in
    let next : next_common (common before link.from) (common before name) (from_at links place) name ≡ common link.from name =
    ap (λ f. next_common (common before link.from) (common before name) f name) from ∙ common_next before link.from name in
    let longer_there : longer_at links place (common link.from name) name found ≡ longer name found link =
    ap (longer_of (common link.from name) name found) h ∙ longer_same name found link in
    ap (λ b. walked_by b links name (common before name) found (common before link.from) place es) d
    ∙ ap (λ n. walked links name n (longer_at links place n name found) es) next ∙ ap (λ f. walked links name (common link.from name) f es) longer_there

walk_is_longest : (links : List Link) (name before : List ℕ) (found : Option Link) (sorted : List SortedFrom) (ordered : List Link)
    → Shows links before sorted ordered → walked links name (common before name) found sorted ≡ longest name found ordered
walk_is_longest links name before found [] [] h = refl
walk_is_longest links name before found (e ∷ es) [] h = absurd h
walk_is_longest links name before found [] (link ∷ ordered) h = absurd h
walk_is_longest links name before found (e ∷ es) (link ∷ ordered) h =
    ap (λ x. walked links name (common before name) found (x ∷ es)) h.1 ∙ one_walked links name before found e.place link es h.0 _ refl
    ∙ walk_is_longest links name link.from (longer name found link) es ordered h.2

at_among : (links : List Link) (n : ℕ) (link : Link) → slice_get links n ≡ Some link → IsAmong link links
at_among [] n link h = absurd (none_some link h)
  where
    none_some : (x : Link) → None ≡ Some x → ⊥
    none_some x e = cc
at_among (first ∷ links) zero link h = inl (sym (of_some first link h))
  where
    of_some : (x y : Link) → Some x ≡ Some y → x ≡ y
    of_some x y e = cc
at_among (first ∷ links) (suc n) link h = inr (at_among links n link h)

shown_among : (links : List Link) (before : List ℕ) (sorted : List SortedFrom) (ordered : List Link) (link : Link) → Shows links before sorted ordered
    → IsAmong link ordered → IsAmong link links
shown_among links before sorted [] link h m = absurd m
shown_among links before [] (first ∷ ordered) link h m = absurd h
shown_among links before (e ∷ es) (first ∷ ordered) link h (inl is) = subst (λ l. IsAmong l links) (sym is) (at_among links e.place first h.0)
shown_among links before (e ∷ es) (first ∷ ordered) link h (inr m) = shown_among links first.from es ordered link h.2 m

pub walk_finds : (links : List Link) (sorted : List SortedFrom) (name : List ℕ) → AreIndexed links sorted → walked links name 0 None sorted ≡ applying links name
walk_finds links sorted name are =
    let index = are.index in
    walk_is_longest links name [] None sorted index.ordered index.shows
    ∙ sym (same_applies links index.ordered are.are index.there (λ link m. shown_among links [] sorted index.ordered link index.shows m) name)
