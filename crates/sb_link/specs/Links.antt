-- Lists of links.
use Rattle.std.specs.Prelude.{◌≡◌, ℕ, Bool, true, not, ◌&&◌, ◌≤◌, nat_le, List, [], ◌∷◌, length}
use Rattle.std.specs.List.{list_all, list_any}
use Rattle.sb_base.specs.Names.{is_name_of}
use Rattle.sb_base.specs.Wide.{is_same}
use Rattle.sb_link.specs.declared.links.Link.{Link}

-- a list has at most 64 links
abbrev pub most_links : ℕ
most_links = 64

-- each name of a link has at most 256 units
abbrev pub most_units : ℕ
most_units = 256

-- what a link may begin with or lead to: a name that is not too long
abbrev pub is_link_name : List ℕ → Bool
is_link_name units = is_name_of units && nat_le (length units) most_units

-- both names of a link are such
abbrev pub is_link : Link → Bool
is_link link = is_link_name link.from && is_link_name link.to

-- the link begins with this name, except for the case of letters
abbrev pub is_from : List ℕ → Link → Bool
is_from name link = is_same link.from name

-- no two links begin with the same name
abbrev pub are_distinct : List Link → Bool
are_distinct [] = true
are_distinct (link ∷ links) = not (list_any (is_from link.from) links) && are_distinct links

-- what is true of every list of links that is read
pub record AreLinks (links : List Link) : Type 0 where
  pub few : length links ≤ most_links
  pub named : list_all is_link links ≡ true
  pub distinct : are_distinct links ≡ true
