-- A name by its directory and its component: its key, whether its directory is there, and whether it is there itself.
use Rattle.std.proofs.Common.{◌≡◌, ℕ, true, false, refl, sym, ◌∙◌, ap, List, ◌∷◌, ◌++◌}
use Rattle.std.proofs.lemmas.Bool.{false≢true}
use Rattle.std.specs.Prelude.{Option, Some, None, is_some}
use Rattle.std.specs.Map.{lookup}
use Rattle.sb_arena.specs.Forests.{IsShallow, HasLiveLinks, value_at}
use Rattle.sb_base.specs.Names.{is_component}
use Rattle.sb_names.specs.Keys.{key_of, parent_of}
use Rattle.sb_names.specs.Maps.{is_key, is_there}
use Rattle.sb_names.specs.Nodes.{Nodes, HasNames, HasNoChild, IsAt, IsChild, IsThere, IsUnnamed, name_of, rows_of}
use Rattle.sb_names.specs.Trees.{has_parent, is_directory_there}
use Rattle.sb_names.specs.declared.trees.NameNode.{NameNode}
use Rattle.sb_names.proofs.NameLemmas.{component_plain, folded_join}
use Rattle.sb_names.proofs.NodeLemmas.{child_name, found_node, found_none, is_the_child, name_root}
use Rattle.sb_names.proofs.PathLemmas.{directory_there}

pub name_key : (name path part : List ℕ) → name ≡ path ++ 92 ∷ part → key_of name ≡ key_of path ++ 92 ∷ key_of part
name_key name path part e = ap key_of e ∙ folded_join path (92 ∷ part)

module _ (f : Nodes) where
  pub at_name : (o : Option ℕ) (key : List ℕ) → IsAt f o key → name_of f o ≡ key
  at_name None key at = name_root f ∙ sym at
  at_name (Some n) key at = at.1

  pub at_there : (o : Option ℕ) (key : List ℕ) → IsAt f o key → IsThere f o
  at_there None key at = tt
  at_there (Some n) key at = at.0

  pub at_itself : (o : Option ℕ) (key : List ℕ) → IsAt f o key → IsAt f o (name_of f o)
  at_itself None key at = name_root f
  at_itself (Some n) key at = (at.0, refl)

  module _ (names : HasNames f) (shallow : IsShallow f.rows) (live_links : HasLiveLinks f) (name path part : List ℕ) (d : Option ℕ)
      (is_path : path ≡ parent_of name) (whole : name ≡ path ++ 92 ∷ part) (at : IsAt f d (key_of path)) where
    pub parent_there : has_parent (rows_of f) name ≡ true
    parent_there = ap (is_directory_there (rows_of f)) (sym is_path) ∙ directory_there f names shallow live_links d path at

    pub whole_key : key_of name ≡ name_of f d ++ 92 ∷ key_of part
    whole_key = name_key name path part whole ∙ ap (λ us. us ++ 92 ∷ key_of part) (sym (at_name d (key_of path) at))

    -- a name whose component is in the directory is there
    pub name_there : (n : ℕ) → IsChild f d (key_of part) n → is_there (rows_of f) name ≡ true
    name_there n child = by (value_at f n) refl child.0
      where
        by : (o : Option NameNode) → value_at f n ≡ o → is_some o ≡ true → is_there (rows_of f) name ≡ true
        by None e live = absurd (false≢true live)
        by (Some w) e live =
            ap is_some (ap (λ key. lookup (is_key key) (rows_of f)) (whole_key ∙ sym (child_name f names shallow live_links d (key_of part) n child))
            ∙ found_node f names shallow live_links n w e)

    -- and one whose component is not there is not
    pub name_gone : is_component part ≡ true → HasNoChild f d (key_of part) → is_there (rows_of f) name ≡ false
    name_gone is_part none =
        let unnamed : IsUnnamed f (key_of name) =
        λ n live same. none n (is_the_child f names shallow live_links d (key_of part) n (at_itself d (key_of path) at) (component_plain part is_part) live (same ∙ whole_key)) in
        ap is_some (found_none f (key_of name) unnamed)
