-- What a name resolves to.
use Rattle.std.specs.Prelude.{ℕ, zero, suc, Bool, true, ◌&&◌, ◌==◌, nat_lt, List, [], ◌∷◌, ◌++◌, length, take, drop, Option, None, Some, if◌then◌else◌}
use Rattle.sb_base.specs.Wide.{is_same}
use Rattle.sb_link.specs.declared.links.Link.{Link}

-- a component of a name ends before these units: there are none, or `\` is the first
abbrev pub ends_component : List ℕ → Bool
ends_component [] = true
ends_component (u ∷ us) = u == 92

-- a link applies to the names that are its FROM, or have it before a `\`, except for the case of letters
abbrev pub is_under : List ℕ → List ℕ → Bool
is_under from name = is_same from (take (length from) name) && ends_component (drop (length from) name)

-- the FROM of a link is longer than that of the one found so far, if there is one
abbrev pub is_longer : Option Link → Link → Bool
is_longer None link = true
is_longer (Some found) link = nat_lt (length found.from) (length link.from)

-- what was found so far, or this link if it applies and is longer
abbrev pub longer : List ℕ → Option Link → Link → Option Link
longer name found link = if is_under link.from name && is_longer found link then Some link else found

-- the longest of what was found so far and of these links that apply
abbrev pub longest : List ℕ → Option Link → List Link → Option Link
longest name found [] = found
longest name found (link ∷ links) = longest name (longer name found link) links

-- of the links that apply to a name the one with the longest FROM
abbrev pub applying : List Link → List ℕ → Option Link
applying links name = longest name None links

-- the name with the FROM of a link replaced by its TO
abbrev pub replaced : List ℕ → Link → List ℕ
replaced name link = link.to ++ drop (length link.from) name

-- a name makes at most 8 steps
abbrev pub most_steps : ℕ
most_steps = 8

-- the name to which no link applies, after at most this many steps; none if a link still applies then
abbrev pub resolve_within : ℕ → List Link → List ℕ → Option (List ℕ)
resolve_within zero links name = elim (applying links name) [
  | None ↦ Some name
  | Some link ↦ None
]
resolve_within (suc steps) links name = elim (applying links name) [
  | None ↦ Some name
  | Some link ↦ resolve_within steps links (replaced name link)
]

-- what a name resolves to
abbrev pub resolve : List Link → List ℕ → Option (List ℕ)
resolve links name = resolve_within most_steps links name
