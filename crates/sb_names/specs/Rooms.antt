-- A tree of names with its index, and the room for one more name.
use Rattle.std.specs.Prelude.{◌≡◌, ℕ, true, List, ◌∷◌, ◌++◌, None, is_some}
use Rattle.std.specs.BTreeMap.{is_at}
use Rattle.std.specs.Map.{lookup}
use Rattle.sb_arena.specs.Forests.{HasVacancy, node_number}
use Rattle.sb_base.specs.Names.{is_component}
use Rattle.sb_names.specs.Hashes.{hash_of}
use Rattle.sb_names.specs.Keys.{key_of}
use Rattle.sb_names.specs.Maps.{is_key}
use Rattle.sb_names.specs.Nodes.{Nodes, IsThere, name_of, number_of, rows_of}
use Rattle.sb_base.specs.Orders.{by_pair}
use Rattle.sb_names.specs.declared.placing.NewName.{NewName}

-- the nodes, and the entries of the indexes that find them: pairs of a hash and a node, and of an object and a node
pub record Tree : Type 0 where
  pub nodes : Nodes
  pub index : List ((ℕ × ℕ) × Unit {0})
  pub objects : List ((ℕ × ℕ) × Unit {0})

-- the folded name that is to be added
abbrev pub key_for : Nodes → NewName → List ℕ
key_for f new = name_of f (number_of new.directory) ++ 92 ∷ key_of new.part

-- a name can be added without memory: its directory is there, a node is free, and both indexes have the entry of the next node
pub record HasRoomFor (t : Tree) (new : NewName) : Type 0 where
  pub there : IsThere t.nodes (number_of new.directory)
  pub part : is_component new.part ≡ true
  pub vacant : HasVacancy t.nodes
  pub entry : is_some (lookup (is_at (by_pair (hash_of (number_of new.directory) (key_of new.part), node_number t.nodes))) t.index) ≡ true
  pub holder : is_some (lookup (is_at (by_pair (new.object, node_number t.nodes))) t.objects) ≡ true

-- nothing is under it
abbrev pub IsFreeFor : Nodes → NewName → Type 0
IsFreeFor f new = lookup (is_key (key_for f new)) (rows_of f) ≡ None
