-- The last component of a name, and whether its directory is there.
use Rattle.std.proofs.Common.{◌≡◌, ℕ, true, false, refl, sym, ◌∙◌, ap, List, [], ◌∷◌, ◌++◌, length, drop}
use Rattle.std.proofs.lemmas.Bool.{false≢true, and_parts}
use Rattle.std.proofs.Math.Seq.{drop-append_seam}
use Rattle.std.specs.Prelude.{Option, Some, None, is_some}
use Rattle.std.specs.Map.{lookup}
use Rattle.std.specs.List.{list_all, list_any}
use Rattle.sb_arena.specs.Forests.{IsShallow, HasLiveLinks, value_at}
use Rattle.sb_base.specs.Names.{NamesArePaths, components_of, is_component, is_name_of, path_of}
use Rattle.sb_names.specs.Keys.{key_of, parent_of, is_backslash}
use Rattle.sb_names.specs.Maps.{is_key, is_there}
use Rattle.sb_names.specs.Nodes.{Nodes, HasNames, IsAt, IsUnnamed, is_path, rows_of}
use Rattle.sb_names.specs.Trees.{is_directory_there}
use Rattle.sb_names.specs.declared.trees.NameNode.{NameNode}
use Rattle.sb_names.proofs.NameLemmas.{component_plain, parent_last, any_folded}
use Rattle.sb_names.proofs.NodeLemmas.{found_node, found_none}

-- a path of components is what is before the last, and the last
cut : (c : List ℕ) (cs : List (List ℕ)) → list_all is_component (c ∷ cs) ≡ true
    → (q : List ℕ) × (part : List ℕ) × (path_of (c ∷ cs) ≡ q ++ 92 ∷ part) × (is_component part ≡ true) × (is_path q ≡ true)
cut c [] all = ([], c, nothing_after (92 ∷ c), (and_parts (is_component c) true all).0, refl)
  where
    nothing_after : (us : List ℕ) → us ++ [] ≡ us
    nothing_after [] = refl
    nothing_after (u ∷ us) = ap (λ more. u ∷ more) (nothing_after us)
cut c (c' ∷ cs) all =
    let parts = and_parts (is_component c) (list_all is_component (c' ∷ cs)) all in
    let rest = cut c' cs parts.1 in
    ((92 ∷ c) ++ rest.0, rest.1, ap (λ us. (92 ∷ c) ++ us) rest.2 ∙ joined (92 ∷ c) rest.0 (92 ∷ rest.1), rest.3, refl)
  where
    joined : (x y z : List ℕ) → x ++ (y ++ z) ≡ (x ++ y) ++ z
    joined [] y z = refl
    joined (u ∷ us) y z = ap (λ more. u ∷ more) (joined us y z)

name_cut : NamesArePaths → (name : List ℕ) → is_name_of name ≡ true
    → (q : List ℕ) × (part : List ℕ) × (name ≡ q ++ 92 ∷ part) × (is_component part ≡ true) × (is_path q ≡ true)
name_cut paths name is_name = by (components_of name) refl (paths name is_name).0 (paths name is_name).1
  where
    empty : (us : List ℕ) → us ≡ [] → is_name_of us ≡ true → ⊥
    empty us e h = false≢true (sym (ap is_name_of e) ∙ h)

    by : (cs : List (List ℕ)) → components_of name ≡ cs → list_all is_component cs ≡ true → path_of cs ≡ name
        → (q : List ℕ) × (part : List ℕ) × (name ≡ q ++ 92 ∷ part) × (is_component part ≡ true) × (is_path q ≡ true)
    by [] e all h = absurd (empty name (sym h) is_name)
    by (c ∷ cs) e all h =
        let got = cut c cs all in
        (got.0, got.1, sym h ∙ got.2, got.3, got.4)

part_plain : (part : List ℕ) → is_component part ≡ true → list_any is_backslash part ≡ false
part_plain part h = sym (any_folded part) ∙ component_plain part h

-- what follows the directory of a name is a `\` and the last component
pub last_cut : NamesArePaths → (name : List ℕ) → is_name_of name ≡ true
    → (part : List ℕ) × (drop (length (parent_of name)) name ≡ 92 ∷ part) × (name ≡ parent_of name ++ 92 ∷ part) × (is_component part ≡ true)
last_cut paths name is_name =
    let got = name_cut paths name is_name in
    let front : parent_of name ≡ got.0 = ap parent_of got.2 ∙ parent_last got.0 got.1 (part_plain got.1 got.3) in
    let whole : name ≡ parent_of name ++ 92 ∷ got.1 = got.2 ∙ ap (λ q. q ++ 92 ∷ got.1) (sym front) in
    (got.1, ap (drop (length (parent_of name))) whole ∙ drop-append_seam (parent_of name) (92 ∷ got.1), whole, got.3)

pub last_parent : NamesArePaths → (name : List ℕ) → is_name_of name ≡ true → is_path (parent_of name) ≡ true
last_parent paths name is_name =
    let got = name_cut paths name is_name in
    ap is_path (ap parent_of got.2 ∙ parent_last got.0 got.1 (part_plain got.1 got.3)) ∙ got.4

module _ (f : Nodes) where
  -- a directory that is there is found
  pub directory_there : HasNames f → IsShallow f.rows → HasLiveLinks f → (o : Option ℕ) (path : List ℕ) → IsAt f o (key_of path)
      → is_directory_there (rows_of f) path ≡ true
  directory_there names shallow live_links o [] at = refl
  directory_there names shallow live_links None (u ∷ us) at = absurd (not_nothing_at u us at)
    where
      not_nothing_at : (u : ℕ) (us : List ℕ) → key_of (u ∷ us) ≡ [] → ⊥
      not_nothing_at u us e = absurd (cc)
  directory_there names shallow live_links (Some n) (u ∷ us) at = by (value_at f n) refl at.0
    where
      by : (w : Option NameNode) → value_at f n ≡ w → is_some w ≡ true → is_there (rows_of f) (u ∷ us) ≡ true
      by None e live = absurd (false≢true live)
      by (Some w) e live =
          ap is_some (ap (λ key. lookup (is_key key) (rows_of f)) (sym at.1) ∙ found_node f names shallow live_links n w e)

  pub directory_gone : (path : List ℕ) → IsUnnamed f (key_of path) → (path ≡ [] → ⊥) → is_directory_there (rows_of f) path ≡ false
  directory_gone [] none some = absurd (some refl)
  directory_gone (u ∷ us) none some = ap is_some (found_none f (key_of (u ∷ us)) none)
