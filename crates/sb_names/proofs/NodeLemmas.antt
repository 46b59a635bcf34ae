-- The names of nodes: each is the name of the directory, and the component after a `\`. Different nodes have different names.
use Rattle.std.proofs.Common.{◌≡◌, ◌<◌, ◌≤◌, ◌==◌, ℕ, Bool, true, false, refl, sym, ◌∙◌, ap, subst, arith, zero, suc, List, [], ◌∷◌, ◌++◌, length, if◌then◌else◌}
use Rattle.std.proofs.lemmas.Bool.{false≢true}
use Rattle.std.proofs.lemmas.Bool.Decides.{nat_tests}
use Rattle.std.proofs.lemmas.List.{append-nil, get_or_past}
use Rattle.std.specs.Prelude.{Option, Some, None, is_some, nat_le}
use Rattle.std.specs.Map.{lookup}
use Rattle.std.specs.List.{list_any}
use Rattle.sb_arena.specs.Forests.{IsLive, value_at, parent_of as node_parent, ancestor, IsShallow, HasLiveLinks, no_nodes}
use Rattle.sb_names.specs.Keys.{key_of, parent_of, is_backslash}
use Rattle.sb_names.specs.Maps.{Rises, is_key}
use Rattle.sb_names.specs.Nodes.{Nodes, HasNames, IsAt, IsChild, HasNoChild, IsUnnamed, key_at, key_by, name_of, name_up, is_path, rows_below, rows_of, with_row}
use Rattle.sb_names.specs.declared.trees.NameNode.{NameNode}
use Rattle.sb_names.proofs.MapLaws.{is_found, own_test, is_key_eq}
use Rattle.sb_names.proofs.RisingLemmas.{rises_put, rises_none}
use Rattle.sb_names.proofs.NameLemmas.{any_folded, folded_join, folded_path, parent_path, parent_last, path_parent, last_equal, not_nothing, nothing_before, component_plain}

pub joined : (a b c : List ℕ) → a ++ (b ++ c) ≡ (a ++ b) ++ c
joined [] b c = refl
joined (u ∷ us) b c = ap (λ more. u ∷ more) (joined us b c)

-- what is left of a path is a `\`, a component and what follows
path_cut : (path rest later part after : List ℕ) (u : ℕ) (front : List ℕ) → key_of path ≡ front ++ key_of rest → rest ≡ u ∷ later
    → is_path rest ≡ true → later ≡ part ++ after → key_of path ≡ front ++ ((92 ∷ key_of part) ++ key_of after)
path_cut path rest later part after u front so_far first bar cut =
    let is_bar : is_path (u ∷ later) ≡ true = ap is_path (sym first) ∙ bar in
    let e : u ≡ 92 = grind (arith, nat_tests, is_bar) in
    so_far ∙ ap (λ us. front ++ key_of us) (first ∙ (λ i. e i ∷ cut i)) ∙ ap (λ us. front ++ (92 ∷ us)) (folded_join part after)

pub no_names : rows_of no_nodes ≡ []
unfolding rows_of
no_names = refl

module _ (f : Nodes) where
  -- a bound on the path that is not met does not matter
  enough : (k : ℕ) (o : Option ℕ) → ancestor f.rows k o ≡ None → name_up f (suc k) o ≡ name_up f k o
  enough zero None h = refl
  enough (suc k) None h = refl
  enough zero (Some n) h = absurd (cc)
  enough (suc k) (Some n) h = ap (λ us. us ++ 92 ∷ key_at f n) (enough k (node_parent f n) h)

  pub name_root : name_of f None ≡ []
  unfolding name_of
  name_root = refl

  -- the name of a node is that of its directory, and the component after a `\`
  pub name_step : IsShallow f.rows → (n : ℕ) → name_of f (Some n) ≡ name_of f (node_parent f n) ++ 92 ∷ key_at f n
  unfolding name_of
  name_step shallow n = ap (λ us. us ++ 92 ∷ key_at f n) (sym (enough (length f.rows) (node_parent f n) (shallow n)))

  pub live_below : (n : ℕ) → IsLive f n → n < length f.values
  live_below n live = by (nat_le (length f.values) n) refl
    where
      by : (b : Bool) → b ≡ nat_le (length f.values) n → n < length f.values
      by true e =
          let s : length f.values ≤ n = grind (arith, nat_tests, e) in
          absurd (false≢true (sym (ap is_some (get_or_past f.values n None s)) ∙ live))
      by false e = grind (arith, nat_tests, e)

  module _ (names : HasNames f) where
    pub key_plain : (n : ℕ) → IsLive f n → list_any is_backslash (key_at f n) ≡ false
    key_plain n live = by (value_at f n) refl live
      where
        by : (o : Option NameNode) → value_at f n ≡ o → is_some o ≡ true → list_any is_backslash (key_by o) ≡ false
        by None e l = absurd (false≢true l)
        by (Some node) e l = component_plain node.part (names.parts n node e)

    module _ (shallow : IsShallow f.rows) (live_links : HasLiveLinks f) where
      -- what is before the last component
      pub parent_name : (n : ℕ) → IsLive f n → parent_of (name_of f (Some n)) ≡ name_of f (node_parent f n)
      parent_name n live = ap parent_of (name_step shallow n) ∙ parent_last (name_of f (node_parent f n)) (key_at f n) (key_plain n live)

      pub not_root : (n : ℕ) → name_of f (Some n) ≡ [] → ⊥
      not_root n e = not_nothing (name_of f (node_parent f n)) (key_at f n) (sym (name_step shallow n) ∙ e)

      -- a node whose name begins with a path is below the node of that path
      pub reached : (k n : ℕ) → ancestor f.rows k (Some n) ≡ None → IsLive f n → (q r : List ℕ) → is_path r ≡ true → (q ≡ [] → ⊥)
          → name_of f (Some n) ≡ q ++ r → (a : ℕ) × IsLive f a × (name_of f (Some a) ≡ q)
      reached zero n h live q r path some e = absurd (cc)
      reached (suc k) n h live q [] path some e = (n, live, e ∙ append-nil q)
      reached (suc k) n h live q (v ∷ s) path some e =
          let bar : v ≡ 92 = grind (arith, nat_tests, path) in
          let up : name_of f (node_parent f n) ≡ q ++ parent_of (92 ∷ s) =
          sym (parent_name n live) ∙ ap parent_of (e ∙ ap (λ b. q ++ b ∷ s) bar) ∙ parent_path q s in
          by (node_parent f n) refl h up (λ p. reached k p)
        where
          by : (o : Option ℕ) → node_parent f n ≡ o → ancestor f.rows k o ≡ None → name_of f o ≡ q ++ parent_of (92 ∷ s)
              → ((p : ℕ) → ancestor f.rows k (Some p) ≡ None → IsLive f p → (q r : List ℕ) → is_path r ≡ true → (q ≡ [] → ⊥)
              → name_of f (Some p) ≡ q ++ r → (a : ℕ) × IsLive f a × (name_of f (Some a) ≡ q))
              → (a : ℕ) × IsLive f a × (name_of f (Some a) ≡ q)
          by None t h up again = absurd (some (nothing_before q (parent_of (92 ∷ s)) (sym up ∙ name_root)))
          by (Some p) t h up again = again p h (live_links n p t).1 q (parent_of (92 ∷ s)) (path_parent (92 ∷ s) refl) some up

      -- different nodes have different names
      same_node : (k m n : ℕ) → ancestor f.rows k (Some m) ≡ None → IsLive f m → IsLive f n → name_of f (Some m) ≡ name_of f (Some n) → m ≡ n
      same_node zero m n h live_m live_n e = absurd (cc)
      same_node (suc k) m n h live_m live_n e =
          let both = last_equal (name_of f (node_parent f m)) (key_at f m) (name_of f (node_parent f n)) (key_at f n) (key_plain m live_m) (key_plain n live_n)
          (sym (name_step shallow m) ∙ e ∙ name_step shallow n) in
          names.apart m n live_m live_n (by (node_parent f m) (node_parent f n) refl refl h both.0 (λ p q. same_node k p q)) both.1
        where
          by : (o u : Option ℕ) → node_parent f m ≡ o → node_parent f n ≡ u → ancestor f.rows k o ≡ None → name_of f o ≡ name_of f u
              → ((p q : ℕ) → ancestor f.rows k (Some p) ≡ None → IsLive f p → IsLive f q → name_of f (Some p) ≡ name_of f (Some q) → p ≡ q) → o ≡ u
          by None None s t h e again = refl
          by None (Some q) s t h e again = absurd (not_root q (sym e ∙ name_root))
          by (Some p) None s t h e again = absurd (not_root p (e ∙ name_root))
          by (Some p) (Some q) s t h e again = ap (λ x. Some x) (again p q h (live_links m p s).1 (live_links n q t).1 e)

      pub one_node : (m n : ℕ) → IsLive f m → IsLive f n → name_of f (Some m) ≡ name_of f (Some n) → m ≡ n
      one_node m n live_m live_n e = same_node (suc (length f.rows)) m n (shallow m) live_m live_n e

      -- the same for directories
      pub one_directory : (o u : Option ℕ) → IsAt f o (name_of f o) → IsAt f u (name_of f u) → name_of f o ≡ name_of f u → o ≡ u
      one_directory None None at_o at_u e = refl
      one_directory None (Some q) at_o at_u e = absurd (not_root q (sym e ∙ name_root))
      one_directory (Some p) None at_o at_u e = absurd (not_root p (e ∙ name_root))
      one_directory (Some p) (Some q) at_o at_u e = ap (λ x. Some x) (one_node p q at_o.0 at_u.0 e)

      pub parent_at : (n : ℕ) → IsLive f n → IsAt f (node_parent f n) (name_of f (node_parent f n))
      parent_at n live = by (node_parent f n) refl
        where
          by : (o : Option ℕ) → node_parent f n ≡ o → IsAt f o (name_of f o)
          by None e = name_root
          by (Some p) e = ((live_links n p e).1, refl)

      -- a node with the name of a directory's component is the child
      pub is_the_child : (o : Option ℕ) (key : List ℕ) (n : ℕ) → IsAt f o (name_of f o) → list_any is_backslash key ≡ false → IsLive f n
          → name_of f (Some n) ≡ name_of f o ++ 92 ∷ key → IsChild f o key n
      is_the_child o key n at plain live e =
          let both = last_equal (name_of f (node_parent f n)) (key_at f n) (name_of f o) key (key_plain n live) plain (sym (name_step shallow n) ∙ e) in
          (live, one_directory (node_parent f n) o (parent_at n live) at both.0, both.1)

      -- the child has that name
      pub child_name : (o : Option ℕ) (key : List ℕ) (n : ℕ) → IsChild f o key n → name_of f (Some n) ≡ name_of f o ++ 92 ∷ key
      child_name o key n child = name_step shallow n ∙ (λ i. name_of f (child.1 i) ++ 92 ∷ child.2 i)

      -- if a component is missing, nothing below it is there
      pub unnamed_below : (o : Option ℕ) (key r : List ℕ) → IsAt f o (name_of f o) → list_any is_backslash key ≡ false → is_path r ≡ true
          → HasNoChild f o key → IsUnnamed f (name_of f o ++ ((92 ∷ key) ++ r))
      unnamed_below o key r at plain path none n live e =
          let top = reached (suc (length f.rows)) n (shallow n) live (name_of f o ++ 92 ∷ key) r path (λ z. not_nothing (name_of f o) key z) (e ∙ joined (name_of f o) (92 ∷ key) r) in
          none top.0 (is_the_child o key top.0 at plain top.1 top.2)

      -- one component more of a path that is walked
      pub walked_on : (path rest later part after : List ℕ) (u : ℕ) (o : Option ℕ) (c : ℕ) → key_of path ≡ name_of f o ++ key_of rest → rest ≡ u ∷ later
          → is_path rest ≡ true → later ≡ part ++ after → IsChild f o (key_of part) c → key_of path ≡ name_of f (Some c) ++ key_of after
      walked_on path rest later part after u o c so_far first bar cut child =
          path_cut path rest later part after u (name_of f o) so_far first bar cut ∙ joined (name_of f o) (92 ∷ key_of part) (key_of after)
          ∙ ap (λ us. us ++ key_of after) (sym (child_name o (key_of part) c child))

      -- and one that is missing
      pub walk_ends : (path rest later part after : List ℕ) (u : ℕ) (o : Option ℕ) → key_of path ≡ name_of f o ++ key_of rest → rest ≡ u ∷ later
          → is_path rest ≡ true → later ≡ part ++ after → IsAt f o (name_of f o) → list_any is_backslash part ≡ false → is_path after ≡ true
          → HasNoChild f o (key_of part) → IsUnnamed f (key_of path)
      walk_ends path rest later part after u o so_far first bar cut at plain path_after none =
          subst (λ us. IsUnnamed f us) (sym (path_cut path rest later part after u (name_of f o) so_far first bar cut))
          (unnamed_below o (key_of part) (key_of after) at (any_folded part ∙ plain) (folded_path after ∙ path_after) none)

      -- what the rows have under the name of a node
      found_up_to : (k n : ℕ) (node : NameNode) → n < k → value_at f n ≡ Some node
          → lookup (is_key (name_of f (Some n))) (rows_below f k) ≡ Some node.object
      found_up_to zero n node l e = absurd (omega arith)
      found_up_to (suc k) n node l e = by (value_at f k) refl (found_up_to k n node)
        where
          key : List ℕ
          key = name_of f (Some n)

          lower : (n ≡ k → ⊥) → n < k
          lower ne = by_test (n == k) refl
            where
              by_test : (b : Bool) → b ≡ (n == k) → n < k
              by_test true t = absurd (ne (grind (arith, nat_tests, t)))
              by_test false t = grind (arith, nat_tests, t, l)

          by : (o : Option NameNode) → value_at f k ≡ o → (n < k → value_at f n ≡ Some node → lookup (is_key key) (rows_below f k) ≡ Some node.object)
              → lookup (is_key key) (with_row o (name_of f (Some k)) (rows_below f k)) ≡ Some node.object
          by None t again = again (lower (λ same. false≢true (ap is_some (sym t ∙ ap (value_at f) (sym same) ∙ e)))) e
          by (Some w) t again = is_found (name_of f (Some k)) w.object key (rows_below f k) ∙ by_key (is_key key (name_of f (Some k))) refl
            where
              by_key : (b : Bool) → is_key key (name_of f (Some k)) ≡ b → (if b then Some w.object else lookup (is_key key) (rows_below f k)) ≡ Some node.object
              by_key true s =
                  let same : n ≡ k = one_node n k (ap is_some e) (ap is_some t) (is_key_eq key (name_of f (Some k)) s) in
                  ap (λ o. object_of o) (sym t ∙ ap (value_at f) (sym same) ∙ e)
                where
                  object_of : Option NameNode → Option ℕ
                  object_of None = None
                  object_of (Some node) = Some node.object
              by_key false s = again (lower (λ same. false≢true (sym s ∙ ap (λ k. is_key key (name_of f (Some k))) (sym same) ∙ own_test key))) e

      pub found_node : (n : ℕ) (node : NameNode) → value_at f n ≡ Some node → lookup (is_key (name_of f (Some n))) (rows_of f) ≡ Some node.object
      unfolding rows_of
      found_node n node e = found_up_to (length f.values) n node (live_below n (ap is_some e)) e

  -- what the rows have under a name that no node has
  none_up_to : (k : ℕ) (key : List ℕ) → IsUnnamed f key → lookup (is_key key) (rows_below f k) ≡ None
  none_up_to zero key none = refl
  none_up_to (suc k) key none = by (value_at f k) refl (none_up_to k key none)
    where
      by : (o : Option NameNode) → value_at f k ≡ o → lookup (is_key key) (rows_below f k) ≡ None
          → lookup (is_key key) (with_row o (name_of f (Some k)) (rows_below f k)) ≡ None
      by None t i = i
      by (Some w) t i = is_found (name_of f (Some k)) w.object key (rows_below f k) ∙ by_key (is_key key (name_of f (Some k))) refl
        where
          by_key : (b : Bool) → is_key key (name_of f (Some k)) ≡ b → (if b then Some w.object else lookup (is_key key) (rows_below f k)) ≡ None
          by_key true s = absurd (none k (ap is_some t) (sym (is_key_eq key (name_of f (Some k)) s)))
          by_key false s = i

  pub found_none : (key : List ℕ) → IsUnnamed f key → lookup (is_key key) (rows_of f) ≡ None
  unfolding rows_of
  found_none key none = none_up_to (length f.values) key none

  rises_below : (k : ℕ) → Rises (rows_below f k)
  rises_below zero = rises_none ℕ
  rises_below (suc k) = by (value_at f k) (rises_below k)
    where
      by : (o : Option NameNode) → Rises (rows_below f k) → Rises (with_row o (name_of f (Some k)) (rows_below f k))
      by None r = r
      by (Some w) r = rises_put (name_of f (Some k)) w.object (rows_below f k) r

  -- the rows rise
  pub rows_rise : Rises (rows_of f)
  unfolding rows_of
  rows_rise = rises_below (length f.values)
