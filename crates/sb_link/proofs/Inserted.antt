-- The index of a list of links with one more.
use Rattle.std.proofs.Common.{◌≡◌, ℕ, zero, suc, ◌<◌, Bool, true, false, List, [], ◌∷◌, ◌++◌, length, Option, None, Some, inl, inr, refl, subst, ap, sym, append_assoc}
use Rattle.std.specs.List.{list_any}
use Rattle.std.specs.Prelude.{if◌then◌else◌, slice_get, ◌⊎◌}
use Rattle.sb_link.specs.Links.{is_from, is_link, most_links}
use Rattle.sb_link.specs.ResolutionLaws.{IsAmong}
use Rattle.sb_link.specs.SortedFroms.{AreIndexed, IsIndex, Shows, entry_after, from_at, inserted, is_before}
use Rattle.sb_link.specs.declared.links.Link.{Link}
use Rattle.sb_link.specs.declared.sorted_froms.SortedFrom.{SortedFrom}
use Rattle.sb_link.proofs.Adding.{one_more}

pub put_one_more : (all : List SortedFrom) (e : SortedFrom) (rest : List SortedFrom) → (all ++ e ∷ []) ++ rest ≡ all ++ e ∷ rest
put_one_more all e rest = append_assoc all (e ∷ []) rest

none_some : (x : Link) → None ≡ Some x → ⊥
none_some x e = cc

get_front : (links others : List Link) (n : ℕ) (link : Link) → slice_get links n ≡ Some link → slice_get (links ++ others) n ≡ Some link
get_front [] others n link h = absurd (none_some link h)
get_front (first ∷ links) others zero link h = h
get_front (first ∷ links) others (suc n) link h = get_front links others n link h

get_last : (links : List Link) (link : Link) → slice_get (links ++ link ∷ []) (length links) ≡ Some link
get_last [] link = refl
get_last (first ∷ links) link = get_last links link

-- the links of the index in order, with one more
abbrev placed : Link → List Link → List Link
placed link [] = link ∷ []
placed link (first ∷ ordered) = if is_before first.from link.from then first ∷ placed link ordered else link ∷ first ∷ ordered

placed_there : (link : Link) (ordered : List Link) → IsAmong link (placed link ordered)
placed_there link [] = inl refl
placed_there link (first ∷ ordered) = by (is_before first.from link.from) (placed_there link ordered)
  where
    by : (b : Bool) → IsAmong link (placed link ordered) → IsAmong link (if b then first ∷ placed link ordered else link ∷ first ∷ ordered)
    by true h = inr h
    by false h = inl refl

others_stay : (link : Link) (ordered : List Link) (other : Link) → IsAmong other ordered → IsAmong other (placed link ordered)
others_stay link [] other m = absurd m
others_stay link (first ∷ ordered) other m = by (is_before first.from link.from) m (others_stay link ordered other)
  where
    by : (b : Bool) → IsAmong other (first ∷ ordered) → (IsAmong other ordered → IsAmong other (placed link ordered))
        → IsAmong other (if b then first ∷ placed link ordered else link ∷ first ∷ ordered)
    by true (inl e) h = inl e
    by true (inr k) h = inr (h k)
    by false k h = inr k

among_more : (links : List Link) (link other : Link) → IsAmong other (links ++ link ∷ []) → IsAmong other links ⊎ (other ≡ link)
among_more [] link other (inl e) = inr e
among_more [] link other (inr m) = absurd m
among_more (first ∷ links) link other (inl e) = inl (inl e)
among_more (first ∷ links) link other (inr m) = by (among_more links link other m)
  where
    by : IsAmong other links ⊎ (other ≡ link) → IsAmong other (first ∷ links) ⊎ (other ≡ link)
    by (inl k) = inl (inr k)
    by (inr e) = inr e

shows_more : (links : List Link) (link : Link) (before : List ℕ) (sorted : List SortedFrom) (ordered : List Link) → Shows links before sorted ordered
    → Shows (links ++ link ∷ []) before sorted ordered
shows_more links link before [] [] h = tt
shows_more links link before (e ∷ es) [] h = absurd h
shows_more links link before [] (first ∷ ordered) h = absurd h
shows_more links link before (e ∷ es) (first ∷ ordered) h =
    (get_front links (link ∷ []) e.place first h.0, h.1, shows_more links link first.from es ordered h.2)

-- the index from one of its FROMs on, by what is in the place of that
abbrev inserted_at : List Link → Link → List ℕ → SortedFrom → List SortedFrom → List ℕ → List SortedFrom
inserted_at links link before e es other =
    if is_before other link.from then e ∷ inserted links link.from (length links) other es
    else entry_after before (length links) link.from ∷ entry_after link.from e.place other ∷ es

shows_inserted : (links : List Link) (link : Link) (before : List ℕ) (sorted : List SortedFrom) (ordered : List Link) → Shows links before sorted ordered
    → Shows (links ++ link ∷ []) before (inserted links link.from (length links) before sorted) (placed link ordered)
shows_inserted links link before [] [] h = (get_last links link, refl, tt)
shows_inserted links link before (e ∷ es) [] h = absurd h
shows_inserted links link before [] (first ∷ ordered) h = absurd h
shows_inserted links link before (e ∷ es) (first ∷ ordered) h =
    subst (λ other. Shows (links ++ link ∷ []) before (inserted_at links link before e es other) (placed link (first ∷ ordered))) (sym there)
    (by (is_before first.from link.from) (shows_inserted links link first.from es ordered h.2))
  where
    there : from_at links e.place ≡ first.from
    there = ap (λ (at : Option Link). elim at [ None ↦ [] | Some l ↦ l.from ]) h.0

    stays : slice_get (links ++ link ∷ []) e.place ≡ Some first
    stays = get_front links (link ∷ []) e.place first h.0

    by : (b : Bool) → Shows (links ++ link ∷ []) first.from (inserted links link.from (length links) first.from es) (placed link ordered)
        → Shows (links ++ link ∷ []) before
        (if b then e ∷ inserted links link.from (length links) first.from es
        else entry_after before (length links) link.from ∷ entry_after link.from e.place first.from ∷ es)
        (if b then first ∷ placed link ordered else link ∷ first ∷ ordered)
    by true k = (stays, h.1, k)
    by false k = (get_last links link, refl, (stays, refl, shows_more links link first.from es ordered h.2))

one_more_shown : (links : List Link) (sorted : List SortedFrom) (link : Link) → IsIndex links sorted
    → IsIndex (links ++ link ∷ []) (inserted links link.from (length links) [] sorted)
one_more_shown links sorted link index = record {
  ordered = placed link index.ordered;
  shows = shows_inserted links link [] sorted index.ordered index.shows;
  there = λ other m. by other (among_more links link other m);
}
  where
    by : (other : Link) → IsAmong other links ⊎ (other ≡ link) → IsAmong other (placed link index.ordered)
    by other (inl m) = others_stay link index.ordered other (index.there other m)
    by other (inr e) = subst (λ l. IsAmong l (placed link index.ordered)) (sym e) (placed_there link index.ordered)

pub one_more_indexed : (links : List Link) (sorted : List SortedFrom) (link : Link) → AreIndexed links sorted → length links < most_links → is_link link ≡ true
    → list_any (is_from link.from) links ≡ false → AreIndexed (links ++ link ∷ []) (inserted links link.from (length links) [] sorted)
one_more_indexed links sorted link are room named new = record {
  are = one_more links link are.are room named new;
  index = one_more_shown links sorted link are.index;
}
