-- The rows of nodes are a tree: each name is in a directory that is there. What a node of a name keeps.
use Rattle.std.proofs.Common.{◌≡◌, ℕ, Bool, true, refl, sym, ◌∙◌, ap, subst, zero, suc, List, [], ◌∷◌, ◌++◌, length}
use Rattle.std.proofs.lemmas.Bool.{false≢true}
use Rattle.std.specs.Prelude.{Option, Some, None, is_some, option_map}
use Rattle.std.specs.List.{AllByRecursion, list_all}
use Rattle.std.specs.Map.{keys_of, lookup}
use Rattle.sb_arena.specs.Forests.{HasLiveLinks, IsLive, IsShallow, ancestor, parent_of as node_parent, value_at}
use Rattle.sb_names.specs.Keys.{key_of, parent_of}
use Rattle.sb_names.specs.Maps.{Rows, found, is_key}
use Rattle.sb_names.specs.Nodes.{Nodes, HasNames, IsAt, IsUnnamed, key_at, key_by, name_of, object_at, rows_of}
use Rattle.sb_names.specs.Trees.{AreFolded, IsTree, directory_object, has_parent, parent_object}
use Rattle.sb_names.specs.declared.trees.NameNode.{NameNode}
use Rattle.sb_names.proofs.NameLemmas.{folded_join}
use Rattle.sb_names.proofs.MapLaws.{own_test}
use Rattle.sb_names.proofs.NodeLemmas.{found_node, found_none, name_root, name_step, not_root, parent_at, parent_name}
use Rattle.sb_names.proofs.PathLemmas.{directory_there}
use Rattle.sb_names.proofs.Removals.{all_rows_named}
use Rattle.sb_names.proofs.TreeLaws.{keys_again, parent_folded}

pub all_tested : (test : List ℕ → Bool) (rows : Rows ℕ) → AllByRecursion (λ key. test key ≡ true) (keys_of rows) → list_all (λ row. test row.0) rows ≡ true
all_tested test [] h = refl
all_tested test (row ∷ rows) h = rw (h.0) (all_tested test rows h.1)

module _ (f : Nodes) (names : HasNames f) (shallow : IsShallow f.rows) (live_links : HasLiveLinks f) where
  key_folded : (o : Option NameNode) → key_of (key_by o) ≡ key_by o
  key_folded None = refl
  key_folded (Some node) = keys_again node.part

  -- names are folded
  name_folded : (k : ℕ) (o : Option ℕ) → ancestor f.rows k o ≡ None → key_of (name_of f o) ≡ name_of f o
  name_folded k None h = ap key_of (name_root f) ∙ sym (name_root f)
  name_folded zero (Some n) h = absurd (cc)
  name_folded (suc k) (Some n) h =
      ap key_of (name_step f shallow n) ∙ folded_join (name_of f (node_parent f n)) (92 ∷ key_at f n)
      ∙ (λ i. name_folded k (node_parent f n) h i ++ 92 ∷ key_folded (value_at f n) i) ∙ sym (name_step f shallow n)

  folded_name : (o : Option ℕ) → key_of (name_of f o) ≡ name_of f o
  folded_name None = ap key_of (name_root f) ∙ sym (name_root f)
  folded_name (Some n) = name_folded (suc (length f.rows)) (Some n) (shallow n)

  -- the directory of a node is there
  has_directory : (n : ℕ) → IsLive f n → has_parent (rows_of f) (name_of f (Some n)) ≡ true
  has_directory n live =
      directory_there f names shallow live_links (node_parent f n) (parent_of (name_of f (Some n)))
      (subst (λ key. IsAt f (node_parent f n) key) (sym (ap key_of (parent_name f names shallow live_links n live) ∙ folded_name (node_parent f n)))
      (parent_at f names shallow live_links n live))

  pub rows_are_tree : IsTree (rows_of f)
  rows_are_tree =
      all_tested (has_parent (rows_of f)) (rows_of f)
      (all_rows_named f names shallow live_links (λ key. has_parent (rows_of f) key ≡ true) has_directory)

  pub rows_are_folded : AreFolded (rows_of f)
  rows_are_folded =
      all_tested (λ key. is_key (key_of key) key) (rows_of f)
      (all_rows_named f names shallow live_links (λ key. is_key (key_of key) key ≡ true)
      (λ n live. ap (λ key. is_key key (name_of f (Some n))) (folded_name (Some n)) ∙ own_test (name_of f (Some n))))

  -- the object of a directory
  path_root : (path : List ℕ) → IsAt f None (key_of path) → directory_object (rows_of f) path ≡ Some None
  path_root [] at = refl
  path_root (u ∷ us) at = absurd (not_nothing_at u us at)
    where
      not_nothing_at : (u : ℕ) (us : List ℕ) → key_of (u ∷ us) ≡ [] → ⊥
      not_nothing_at u us e = absurd (cc)

  path_there : (path : List ℕ) (n : ℕ) (node : NameNode) → IsAt f (Some n) (key_of path) → value_at f n ≡ Some node
      → directory_object (rows_of f) path ≡ Some (Some node.object)
  path_there [] n node at e = absurd (not_root f names shallow live_links n at.1)
  path_there (u ∷ us) n node at e =
      ap (option_map (λ object. Some object))
      (ap (λ key. lookup (is_key key) (rows_of f)) (sym at.1) ∙ found_node f names shallow live_links n node e)

  path_gone : (path : List ℕ) → IsUnnamed f (key_of path) → (path ≡ [] → ⊥) → directory_object (rows_of f) path ≡ None
  path_gone [] none some = absurd (some refl)
  path_gone (u ∷ us) none some = ap (option_map (λ object. Some object)) (found_none f (key_of (u ∷ us)) none)

  module _ (name path : List ℕ) (is_path : path ≡ parent_of name) where
    pub object_root : IsAt f None (key_of path) → parent_object (rows_of f) name ≡ Some None
    object_root at = ap (directory_object (rows_of f)) (sym is_path) ∙ path_root path at

    pub object_there : (n : ℕ) (node : NameNode) → IsAt f (Some n) (key_of path) → value_at f n ≡ Some node
        → parent_object (rows_of f) name ≡ Some (Some node.object)
    object_there n node at e = ap (directory_object (rows_of f)) (sym is_path) ∙ path_there path n node at e

    pub object_gone : IsUnnamed f (key_of path) → (path ≡ [] → ⊥) → parent_object (rows_of f) name ≡ None
    object_gone none some = ap (directory_object (rows_of f)) (sym is_path) ∙ path_gone path none some

  module _ (name : List ℕ) (a : ℕ) (at : IsAt f (Some a) (key_of name)) where
    -- the object of a node is that of its name
    pub node_object : object_at f a ≡ found (rows_of f) name
    node_object = by (value_at f a) refl at.0
      where
        by : (o : Option NameNode) → value_at f a ≡ o → is_some o ≡ true → option_map (λ w. w.object) o ≡ lookup (is_key (key_of name)) (rows_of f)
        by None e live = absurd (false≢true live)
        by (Some w) e live =
            sym (ap (λ key. lookup (is_key key) (rows_of f)) (sym at.1) ∙ found_node f names shallow live_links a w e)

    directory_name : name_of f (node_parent f a) ≡ key_of (parent_of name)
    directory_name = sym (parent_name f names shallow live_links a at.0) ∙ ap parent_of at.1 ∙ parent_folded name

    -- its parent is the node of its directory
    pub node_directory : IsAt f (node_parent f a) (key_of (parent_of name))
    node_directory = subst (λ key. IsAt f (node_parent f a) key) directory_name (parent_at f names shallow live_links a at.0)

    -- and its component is the last of the name
    pub node_part : key_of name ≡ key_of (parent_of name) ++ 92 ∷ key_at f a
    node_part = sym at.1 ∙ name_step f shallow a ∙ ap (λ us. us ++ 92 ∷ key_at f a) directory_name
