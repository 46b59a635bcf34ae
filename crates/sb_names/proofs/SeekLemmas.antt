-- Where the path of a name leads.
use Rattle.std.proofs.Common.{◌≡◌, ℕ, true, false, refl, sym, ◌∙◌, ap, List, [], ◌∷◌, ◌++◌}
use Rattle.std.proofs.lemmas.Bool.{false≢true}
use Rattle.std.specs.Prelude.{Option, Some, None, is_some, option_map, OnOk, Result, Ok, Err}
use Rattle.std.specs.BTreeMap.{insert_entry}
use Rattle.std.specs.Map.{lookup}
use Rattle.sb_arena.specs.Forests.{IsShallow, HasLiveLinks, value_at}
use Rattle.sb_base.specs.Names.{is_component}
use Rattle.sb_names.specs.Keys.{key_of, parent_of}
use Rattle.sb_names.specs.Maps.{Rows, found, is_key, put}
use Rattle.sb_names.specs.Nodes.{Nodes, HasNames, HasNoChild, IsAt, IsChild, IsUnnamed, name_of, rows_of}
use Rattle.sb_names.specs.Seeks.{object_by}
use Rattle.sb_names.specs.Trees.{has_parent, is_directory_there, parent_object}
use Rattle.sb_names.specs.declared.trees.NameNode.{NameNode}
use Rattle.sb_names.proofs.AddLemmas.{name_gone, name_there, parent_there, whole_key}
use Rattle.sb_names.proofs.NodeLemmas.{child_name, found_node}
use Rattle.sb_names.proofs.PathLemmas.{directory_gone}
use Rattle.sb_names.proofs.RisingLemmas.{by_unit}
use Rattle.sb_names.proofs.TreeLemmas.{object_gone, object_root, object_there}
use Rattle.sb_names.proofs.EntryLemmas.{none_of}

module _ (f : Nodes) (names : HasNames f) (shallow : IsShallow f.rows) (live_links : HasLiveLinks f) (name path part : List ℕ)
    (is_path : path ≡ parent_of name) where
  pub no_directory : IsUnnamed f (key_of path) → (path ≡ [] → ⊥) → parent_object (rows_of f) name ≡ None
  no_directory none some = object_gone f names shallow live_links name path is_path none some

  pub no_parent : IsUnnamed f (key_of path) → (path ≡ [] → ⊥) → has_parent (rows_of f) name ≡ false
  no_parent none some = ap (is_directory_there (rows_of f)) (sym is_path) ∙ directory_gone f path none some

  module _ (whole : name ≡ path ++ 92 ∷ part) (d : Option ℕ) (at : IsAt f d (key_of path)) where
    -- the directory is there, with its object
    pub parent_sought : parent_object (rows_of f) name ≡ Some (object_by f d)
    parent_sought = by d at
      where
        by_value : (n : ℕ) → IsAt f (Some n) (key_of path) → (o : Option NameNode) → value_at f n ≡ o → is_some o ≡ true
            → parent_object (rows_of f) name ≡ Some (option_map (λ w. w.object) o)
        by_value n at None e live = absurd (false≢true live)
        by_value n at (Some w) e live = object_there f names shallow live_links name path is_path n w at e

        by : (d : Option ℕ) → IsAt f d (key_of path) → parent_object (rows_of f) name ≡ Some (object_by f d)
        by None at = object_root f names shallow live_links name path is_path at
        by (Some n) at = by_value n at (value_at f n) refl at.0

    pub parent_is_there : has_parent (rows_of f) name ≡ true
    parent_is_there = parent_there f names shallow live_links name path part d is_path whole at

    -- a node of the component is that of the name
    pub at_child : (n : ℕ) → IsChild f d (key_of part) n → IsAt f (Some n) (key_of name)
    at_child n child =
        (child.0, child_name f names shallow live_links d (key_of part) n child ∙ sym (whole_key f names shallow live_links name path part d is_path whole at))

    pub child_object : (n : ℕ) (w : NameNode) → IsChild f d (key_of part) n → value_at f n ≡ Some w → found (rows_of f) name ≡ Some w.object
    child_object n w child e =
        ap (λ key. lookup (is_key key) (rows_of f)) (sym (at_child n child).1) ∙ found_node f names shallow live_links n w e

    pub none_sought : is_component part ≡ true → HasNoChild f d (key_of part) → found (rows_of f) name ≡ None
    none_sought is_part none = none_of (found (rows_of f) name) (name_gone f names shallow live_links name path part d is_path whole at is_part none)

    -- if no name is found, no node has its component
    pub no_child_there : found (rows_of f) name ≡ None → HasNoChild f d (key_of part)
    no_child_there none n child =
        false≢true (sym (ap is_some none) ∙ name_there f names shallow live_links name path part d is_path whole at n child)

    -- the row of a name that is added
    pub put_sought : (object : ℕ) (rows : Rows ℕ) → rows ≡ insert_entry by_unit (rows_of f) (name_of f d ++ 92 ∷ key_of part) object
        → rows ≡ put (rows_of f) name object
    put_sought object rows e =
        e ∙ ap (λ key. insert_entry by_unit (rows_of f) key object) (sym (whole_key f names shallow live_links name path part d is_path whole at))

    pub put_if_ok : (object : ℕ) (rows : Rows ℕ) {X E : Type 0} (r : Result X E) → OnOk r (rows ≡ insert_entry by_unit (rows_of f) (name_of f d ++ 92 ∷ key_of part) object)
        → OnOk r (rows ≡ put (rows_of f) name object)
    put_if_ok object rows (Ok u) e = put_sought object rows e
    put_if_ok object rows (Err fault) e = e
