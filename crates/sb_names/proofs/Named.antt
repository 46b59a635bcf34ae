-- The name of each node is a name: its components, folded, each after a `\`.
use Rattle.std.proofs.Common.{◌≡◌, ◌-◌, ◌==◌, ℕ, Bool, true, false, refl, sym, ◌∙◌, ap, subst, arith, zero, suc, List, [], ◌∷◌, ◌++◌, length, map}
use Rattle.std.proofs.lemmas.Bool.{false≢true}
use Rattle.std.proofs.lemmas.Bool.Decides.{nat_tests}
use Rattle.std.proofs.lemmas.List.{append-nil, length-map}
use Rattle.std.proofs.lemmas.List.Concat.{flat_map-append}
use Rattle.std.specs.Prelude.{Option, Some, None, is_some, not, nat_lt, slice_index, ◌&&◌}
use Rattle.std.specs.List.{list_all}
use Rattle.sb_arena.specs.Forests.{HasLiveLinks, IsLive, IsShallow, ancestor, parent_of as node_parent, value_at}
use Rattle.sb_base.specs.Names.{NamesArePaths, PathsAreNames, components_of, is_component, is_name_of, is_ordinary, path_of}
use Rattle.sb_base.specs.Wide.{folded}
use Rattle.sb_names.specs.Keys.{key_of}
use Rattle.sb_names.specs.Laws.{NamesFold}
use Rattle.sb_names.specs.Nodes.{Nodes, HasNames, key_at, key_by, name_of, rows_of}
use Rattle.sb_names.specs.Trees.{AreNamed}
use Rattle.sb_names.specs.declared.trees.NameNode.{NameNode}
use Rattle.sb_names.proofs.NameLemmas.{folded_join}
use Rattle.sb_names.proofs.NodeLemmas.{name_root, name_step}
use Rattle.sb_names.proofs.Removals.{all_rows_named}
use Rattle.sb_names.proofs.TreeLemmas.{all_tested}

ordinary_folded : (u : ℕ) → is_ordinary (folded u) ≡ is_ordinary u
ordinary_folded u = grind (arith, nat_tests)

same_end : (u : ℕ) → ((folded u == 32) ≡ (u == 32)) × ((folded u == 46) ≡ (u == 46))
same_end u = (grind (arith, nat_tests), grind (arith, nat_tests))

all_folded : (us : List ℕ) → list_all is_ordinary (key_of us) ≡ list_all is_ordinary us
all_folded [] = refl
all_folded (u ∷ us) = rw (ordinary_folded u, all_folded us) refl

index_folded : (us : List ℕ) (n : ℕ) → slice_index (key_of us) n ≡ folded (slice_index us n)
index_folded [] n = refl
index_folded (u ∷ us) zero = refl
index_folded (u ∷ us) (suc n) = index_folded us n

-- a folded component is one
component_folded : (part : List ℕ) → is_component (key_of part) ≡ is_component part
component_folded part =
    let len : length (key_of part) ≡ length part = length-map part folded in
    let last : slice_index (key_of part) (length (key_of part) - 1) ≡ folded (slice_index part (length part - 1)) =
    ap (λ n. slice_index (key_of part) (n - 1)) len ∙ index_folded part (length part - 1) in
    let same = same_end (slice_index part (length part - 1)) in
    (λ i. (nat_lt 0 (len i) && not (last i == 32) && not (last i == 46)) && all_folded part i)
    ∙ (λ i. (nat_lt 0 (length part) && not (same.0 i) && not (same.1 i)) && list_all is_ordinary part)

all_and_one : (cs : List (List ℕ)) (c : List ℕ) → list_all is_component cs ≡ true → is_component c ≡ true → list_all is_component (cs ++ c ∷ []) ≡ true
all_and_one [] c all one = rw one refl
all_and_one (d ∷ cs) c all one = by (is_component d) all (all_and_one cs c)
  where
    by : (b : Bool) → (b && list_all is_component cs) ≡ true
        → (list_all is_component cs ≡ true → is_component c ≡ true → list_all is_component (cs ++ c ∷ []) ≡ true)
        → (b && list_all is_component (cs ++ c ∷ [])) ≡ true
    by true h again = again h one
    by false h again = absurd (false≢true h)

module _ (f : Nodes) (names : HasNames f) (shallow : IsShallow f.rows) (live_links : HasLiveLinks f) where
  component_at : (n : ℕ) → IsLive f n → is_component (key_at f n) ≡ true
  component_at n live = by (value_at f n) refl live
    where
      by : (o : Option NameNode) → value_at f n ≡ o → is_some o ≡ true → is_component (key_by o) ≡ true
      by None e l = absurd (false≢true l)
      by (Some node) e l = component_folded node.part ∙ names.parts n node e

  abbrev IsPath : List ℕ → Type 0
  IsPath name = (c : List ℕ) × (cs : List (List ℕ)) × (list_all is_component (c ∷ cs) ≡ true) × (path_of (c ∷ cs) ≡ name)

  -- a node's name is a path of components
  path_at : (k n : ℕ) → ancestor f.rows k (Some n) ≡ None → IsLive f n → IsPath (name_of f (Some n))
  path_at zero n h live = absurd (cc)
  path_at (suc k) n h live = by (node_parent f n) refl h (path_at k)
    where
      one : list_all is_component (key_at f n ∷ []) ≡ true
      one = rw (component_at n live) refl

      last : path_of (key_at f n ∷ []) ≡ 92 ∷ key_at f n
      last = append-nil (92 ∷ key_at f n)

      by : (o : Option ℕ) → node_parent f n ≡ o → ancestor f.rows k o ≡ None
          → ((p : ℕ) → ancestor f.rows k (Some p) ≡ None → IsLive f p → IsPath (name_of f (Some p))) → IsPath (name_of f (Some n))
      by None e m again =
          (key_at f n, [], one, last ∙ sym (name_step f shallow n ∙ ap (λ us. us ++ 92 ∷ key_at f n) (ap (name_of f) e ∙ name_root f)))
      by (Some p) e m again =
          let up = again p m (live_links n p e).1 in (
            up.0,
            up.1 ++ key_at f n ∷ [],
            all_and_one (up.0 ∷ up.1) (key_at f n) up.2 (component_at n live),
            flat_map-append (λ c. 92 ∷ c) (up.0 ∷ up.1) (key_at f n ∷ []) ∙ (λ i. up.3 i ++ last i)
                ∙ sym (name_step f shallow n ∙ ap (λ us. us ++ 92 ∷ key_at f n) (ap (name_of f) e)),
          )

  pub rows_are_named : PathsAreNames → AreNamed (rows_of f)
  rows_are_named paths =
      all_tested is_name_of (rows_of f)
      (all_rows_named f names shallow live_links (λ key. is_name_of key ≡ true) (λ n live. named (path_at (suc (length f.rows)) n (shallow n) live)))
    where
      named : {name : List ℕ} → IsPath name → is_name_of name ≡ true
      named {name} path = subst (λ us. is_name_of us ≡ true) path.3 (paths path.0 path.1 path.2)

path_folded : (cs : List (List ℕ)) → key_of (path_of cs) ≡ path_of (map key_of cs)
path_folded [] = refl
path_folded (c ∷ cs) = folded_join (92 ∷ c) (path_of cs) ∙ ap (λ us. (92 ∷ key_of c) ++ us) (path_folded cs)

components_folded : (cs : List (List ℕ)) → list_all is_component (map key_of cs) ≡ list_all is_component cs
components_folded [] = refl
components_folded (c ∷ cs) = rw (component_folded c, components_folded cs) refl

pub names_fold : NamesArePaths → PathsAreNames → NamesFold
names_fold paths names name is_name = by (components_of name) (paths name is_name).0 (paths name is_name).1
  where
    empty : (us : List ℕ) → us ≡ [] → is_name_of us ≡ true → ⊥
    empty us e h = false≢true (sym (ap is_name_of e) ∙ h)

    by : (cs : List (List ℕ)) → list_all is_component cs ≡ true → path_of cs ≡ name → is_name_of (key_of name) ≡ true
    by [] all e = absurd (empty name (sym e) is_name)
    by (c ∷ cs) all e =
        subst (λ us. is_name_of us ≡ true) (sym (path_folded (c ∷ cs)) ∙ ap key_of e)
        (names (key_of c) (map key_of cs) (components_folded (c ∷ cs) ∙ all))
