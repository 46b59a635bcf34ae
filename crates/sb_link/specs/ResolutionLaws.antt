-- What is true of resolving names.
use Rattle.std.specs.Prelude.{◌≡◌, ◌⊎◌, ℕ, true, ◌≤◌, List, [], ◌∷◌, length, None, Some, Option, ⊤}
use Rattle.sb_base.specs.Names.{is_name_of}
use Rattle.sb_base.specs.Wide.{is_same}
use Rattle.sb_link.specs.Links.{AreLinks}
use Rattle.sb_link.specs.Resolution.{is_under, applying, resolve}
use Rattle.sb_link.specs.declared.links.Link.{Link}

-- a link is one of these
abbrev pub IsAmong : Link → List Link → Type 0
IsAmong link [] = ⊥
IsAmong link (first ∷ links) = (link ≡ first) ⊎ IsAmong link links

-- the link is one of the list, it applies to the name, and each link of the list that applies has at most as long a FROM
pub record IsLongest (links : List Link) (name : List ℕ) (link : Link) : Type 0 where
  pub there : IsAmong link links
  pub applies : is_under link.from name ≡ true
  pub longest : (other : Link) → IsAmong other links → is_under other.from name ≡ true → length other.from ≤ length link.from

-- the link that applies is the longest, and if there is none, none applies
abbrev pub LongestLinksApply : Type 0
LongestLinksApply = ((links : List Link) (name : List ℕ) (link : Link) → applying links name ≡ Some link → IsLongest links name link)
    × ((links : List Link) (name : List ℕ) (link : Link) → applying links name ≡ None → IsAmong link links → is_under link.from name ≡ true → ⊥)

-- if no two links begin with the same name, the longest is the one that applies: no other list of the same links has another
abbrev pub OrderDoesNotMatter : Type 0
OrderDoesNotMatter = (links others : List Link) → AreLinks links → AreLinks others → ((link : Link) → IsAmong link links → IsAmong link others)
    → ((link : Link) → IsAmong link others → IsAmong link links) → (name : List ℕ) → resolve links name ≡ resolve others name

-- a name to which no link applies resolves to itself
abbrev pub OtherNamesStay : Type 0
OtherNamesStay = (links : List Link) (name : List ℕ) → applying links name ≡ None → resolve links name ≡ Some name

-- what a name resolves to resolves to itself: no link applies to it
abbrev pub ResolvedNamesStay : Type 0
ResolvedNamesStay = (links : List Link) (name other : List ℕ) → resolve links name ≡ Some other
    → (applying links other ≡ None) × (resolve links other ≡ Some other)

-- a name resolves to a name
abbrev pub NamesResolveToNames : Type 0
NamesResolveToNames = (links : List Link) (name other : List ℕ) → AreLinks links → is_name_of name ≡ true → resolve links name ≡ Some other
    → is_name_of other ≡ true

-- both are there and the same except for the case of letters, or neither is there
abbrev pub AreSame : Option (List ℕ) → Option (List ℕ) → Type 0
AreSame None None = ⊤
AreSame (Some a) (Some b) = is_same a b ≡ true
AreSame None (Some b) = ⊥
AreSame (Some a) None = ⊥

-- names that are the same except for the case of letters resolve to such names
abbrev pub SameNamesResolveAlike : Type 0
SameNamesResolveAlike = (links : List Link) (name other : List ℕ) → is_same name other ≡ true → AreSame (resolve links name) (resolve links other)
