-- The FROMs of links in order, and the walk over them that finds the longest which applies to a name.
use Rattle.std.specs.Prelude.{◌≡◌, ℕ, suc, ◌+◌, min, Bool, true, false, not, ◌&&◌, ◌==◌, nat_lt, List, [], ◌∷◌, length, drop, Option, None, Some, if◌then◌else◌, slice_get, ⊤}
use Rattle.sb_base.specs.Wide.{folded}
use Rattle.sb_link.specs.Links.{AreLinks}
use Rattle.sb_link.specs.Resolution.{ends_component, is_longer}
use Rattle.sb_link.specs.ResolutionLaws.{IsAmong}
use Rattle.sb_link.specs.declared.links.Link.{Link}
use Rattle.sb_link.specs.declared.sorted_froms.SortedFrom.{SortedFrom}

-- how many units two names have in common at the front, after folding
abbrev pub common : List ℕ → List ℕ → ℕ
common [] b = 0
common (x ∷ xs) [] = 0
common (x ∷ xs) (y ∷ ys) = if folded x == folded y then suc (common xs ys) else 0

-- the first name comes before the second one or is its beginning, by the folded units
abbrev pub is_before : List ℕ → List ℕ → Bool
is_before [] b = true
is_before (x ∷ xs) [] = false
is_before (x ∷ xs) (y ∷ ys) = if folded x == folded y then is_before xs ys else nat_lt (folded x) (folded y)

-- the first of these units, folded; none if there are no units
abbrev pub next_unit : List ℕ → Option ℕ
next_unit [] = None
next_unit (u ∷ us) = Some (folded u)

-- the entry of a FROM, of the link at a place, after another FROM
abbrev pub entry_after : List ℕ → ℕ → List ℕ → SortedFrom
entry_after before place from = record { place = place; shared = common before from; next = next_unit (drop (common before from) from) }

-- each entry of the index is that of the FROM of a link, in the link's place, after the FROM before it
abbrev pub Shows : List Link → List ℕ → List SortedFrom → List Link → Type 0
Shows links before [] [] = ⊤
Shows links before (e ∷ es) [] = ⊥
Shows links before [] (link ∷ ordered) = ⊥
Shows links before (e ∷ es) (link ∷ ordered) =
    (slice_get links e.place ≡ Some link) × (e ≡ entry_after before e.place link.from) × Shows links link.from es ordered

-- the index of a list of links shows all of them
pub record IsIndex (links : List Link) (sorted : List SortedFrom) : Type 0 where
  pub ordered : List Link
  pub shows : Shows links [] sorted ordered
  pub there : (link : Link) → IsAmong link links → IsAmong link ordered

-- what is true of every list of links with its index
pub record AreIndexed (links : List Link) (sorted : List SortedFrom) : Type 0 where
  pub are : AreLinks links
  pub index : IsIndex links sorted

-- the FROM of the link at a place
abbrev pub from_at : List Link → ℕ → List ℕ
from_at links place = elim (slice_get links place) [
  | None ↦ []
  | Some link ↦ link.from
]

-- the index with one more FROM, of the link at this place, below those that come before it
abbrev pub inserted : List Link → List ℕ → ℕ → List ℕ → List SortedFrom → List SortedFrom
inserted links from place before [] = entry_after before place from ∷ []
inserted links from place before (e ∷ es) =
    if is_before (from_at links e.place) from then e ∷ inserted links from place (from_at links e.place) es
    else entry_after before place from ∷ entry_after from e.place (from_at links e.place) ∷ es

-- a FROM that goes on with the first of these units differs there from a name that goes on with the second, or ends there
abbrev pub is_other : Option ℕ → Option ℕ → Bool
is_other None unit = false
is_other (Some u) None = true
is_other (Some u) (Some v) = not (u == v)

-- the FROM before this one has this many units in common with a name, which goes on with this unit: it differs from the name there too
abbrev pub differs : ℕ → Option ℕ → SortedFrom → Bool
differs count next e = if e.shared == count then is_other e.next next else nat_lt count e.shared

-- what a FROM has in common with a name, by what it has in common with the FROM before it, and by what that has with the name
abbrev pub next_common : ℕ → ℕ → List ℕ → List ℕ → ℕ
next_common shared count from name =
    if shared == count then count + common (drop count from) (drop count name) else min shared count

-- a name has the whole FROM in common, and a component of it ends there
abbrev pub is_whole : ℕ → List ℕ → List ℕ → Bool
is_whole count from name = count == length from && ends_component (drop count name)

-- what was found so far, or this link if it applies, since the name has this many units in common with its FROM, and is longer
abbrev pub longer_by : ℕ → List ℕ → Option Link → Link → Option Link
longer_by count name found link = if is_whole count link.from name && is_longer found link then Some link else found

-- the same with the link at a place
abbrev pub longer_at : List Link → ℕ → ℕ → List ℕ → Option Link → Option Link
longer_at links place count name found = elim (slice_get links place) [
  | None ↦ found
  | Some link ↦ longer_by count name found link
]

-- the longest of what was found so far and of the links that apply, by one walk over the index; the FROM before it has this many units
-- in common with the name
abbrev pub walked : List Link → List ℕ → ℕ → Option Link → List SortedFrom → Option Link
walked links name count found [] = found
walked links name count found (e ∷ es) =
    if differs count (next_unit (drop count name)) e then walked links name count found es
    else
    let next = next_common e.shared count (from_at links e.place) name in
    walked links name next (longer_at links e.place next name found) es
