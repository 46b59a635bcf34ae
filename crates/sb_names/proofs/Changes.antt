-- What a change of one node does to the names of all, and to the rows.
use Rattle.std.proofs.Common.{◌≡◌, ◌≢◌, ◌<◌, ◌^◌, ◌==◌, ◌⊎◌, inl, inr, ℕ, Bool, true, false, refl, sym, ◌∙◌, ap, subst, arith, zero, suc, List, ◌∷◌, ◌++◌, length, if◌then◌else◌}
use Rattle.std.proofs.lemmas.Bool.{and_parts, false≢true}
use Rattle.std.proofs.lemmas.Bool.Decides.{nat_tests}
use Rattle.std.specs.Prelude.{Option, Some, None, is_some, ◌&&◌}
use Rattle.std.specs.BTreeMap.{insert_entry}
use Rattle.std.specs.Map.{lookup}
use Rattle.sb_arena.specs.Forests.{IsLive, value_at, parent_of as node_parent, ancestor, IsShallow, HasLiveLinks, IsSound, IsAbove, with_node, with_child, node_number}
use Rattle.sb_arena.specs.Laws.{AddsLeaveParents, AddsSetValues, LinksSetParents, NumbersAreFree}
use Rattle.sb_base.specs.Names.{is_component}
use Rattle.sb_names.specs.Hashes.{hash_of}
use Rattle.sb_names.specs.Keys.{key_of}
use Rattle.sb_names.specs.Maps.{Rows, Rises, is_key}
use Rattle.sb_names.specs.Nodes.{Nodes, HasNames, HasNoChild, IsChanged, IsChild, IsIndexed, IsThere, IsUnnamed, KeepsNodes, is_entry, key_at, key_by, name_of, rows_of}
use Rattle.sb_names.specs.declared.trees.NameNode.{NameNode}
use Rattle.sb_names.proofs.Extent.{same_rows}
use Rattle.sb_names.proofs.MapLaws.{is_found, own_test, is_key_eq}
use Rattle.sb_names.proofs.NodeLemmas.{found_node, found_none, live_below, name_root, name_step, one_node, rows_rise}
use Rattle.sb_names.proofs.RisingLemmas.{by_unit, rises_put}

pub same_of : (x n : ℕ) → true ≡ (x == n) → x ≡ n
same_of x n e = grind (arith, nat_tests, e)

pub other_of : (x n : ℕ) → false ≡ (x == n) → x ≢ n
other_of x n e w = absurd (grind (arith, nat_tests, e, w))

pub is_same : (n : ℕ) → (n == n) ≡ true
is_same n = grind (arith, nat_tests)

pub is_other : (x n : ℕ) → x ≢ n → (x == n) ≡ false
is_other x n ne = by (x == n) refl
  where
    by : (b : Bool) → b ≡ (x == n) → (x == n) ≡ false
    by true e = absurd (ne (same_of x n e))
    by false e = sym e

-- a node that has a name is there, or is not
module _ (f : Nodes) (key : List ℕ) where
  abbrev pub Named : ℕ → Type 0
  Named k = (n : ℕ) × (node : NameNode) × (value_at f n ≡ Some node) × (name_of f (Some n) ≡ key)

  named_up_to : (k : ℕ) → Named k ⊎ ((n : ℕ) → n < k → IsLive f n → name_of f (Some n) ≡ key → ⊥)
  named_up_to zero = inr (λ n l live e. absurd (omega (arith, l)))
  named_up_to (suc k) = by (value_at f k) refl (is_key (name_of f (Some k)) key) refl (named_up_to k)
    where
      lower : (n : ℕ) → n < suc k → (n ≡ k → ⊥) → n < k
      lower n l ne = by_test (n == k) refl
        where
          by_test : (b : Bool) → b ≡ (n == k) → n < k
          by_test true t = absurd (ne (same_of n k t))
          by_test false t = grind (arith, nat_tests, t, l)

      by : (o : Option NameNode) → value_at f k ≡ o → (b : Bool) → is_key (name_of f (Some k)) key ≡ b
          → Named k ⊎ ((n : ℕ) → n < k → IsLive f n → name_of f (Some n) ≡ key → ⊥)
          → Named (suc k) ⊎ ((n : ℕ) → n < suc k → IsLive f n → name_of f (Some n) ≡ key → ⊥)
      by o e b t (inl found) = inl found
      by (Some node) e true t (inr none) = inl (k, node, e, is_key_eq (name_of f (Some k)) key t)
      by None e b t (inr none) = inr (λ n l live s. none n (lower n l (λ same. false≢true (sym (ap is_some e) ∙ subst (λ m. IsLive f m) same live))) live s)
      by (Some node) e false t (inr none) =
          inr (λ n l live s. none n (lower n l (λ same. false≢true (sym t ∙ ap (λ us. is_key us key) (ap (λ m. name_of f (Some m)) (sym same) ∙ s) ∙ own_test key))) live s)

  pub named : Named (length f.values) ⊎ IsUnnamed f key
  named = by (named_up_to (length f.values))
    where
      by : Named (length f.values) ⊎ ((n : ℕ) → n < length f.values → IsLive f n → name_of f (Some n) ≡ key → ⊥) → Named (length f.values) ⊎ IsUnnamed f key
      by (inl found) = inl found
      by (inr none) = inr (λ n live e. none n (live_below f n live) live e)

-- rows that have each node under its name, and nothing else, are the rows of the nodes
pub rows_match : (f : Nodes) → HasNames f → IsShallow f.rows → HasLiveLinks f → (rows : Rows ℕ) → Rises rows
    → ((n : ℕ) (node : NameNode) → value_at f n ≡ Some node → lookup (is_key (name_of f (Some n))) rows ≡ Some node.object)
    → ((key : List ℕ) → IsUnnamed f key → lookup (is_key key) rows ≡ None) → rows_of f ≡ rows
rows_match f names shallow live_links rows rises has none = same_rows (rows_of f) rows (rows_rise f) rises (λ key. by key (named f key))
  where
    by : (key : List ℕ) → Named f key (length f.values) ⊎ IsUnnamed f key → lookup (is_key key) (rows_of f) ≡ lookup (is_key key) rows
    by key (inl found) =
        ap (λ k. lookup (is_key k) (rows_of f)) (sym found.3) ∙ found_node f names shallow live_links found.0 found.1 found.2
        ∙ sym (has found.0 found.1 found.2) ∙ ap (λ k. lookup (is_key k) rows) found.3
    by key (inr missing) = found_none f key missing ∙ sym (none key missing)

module _ (f f' : Nodes) (a : ℕ) (v : Option NameNode) (d : Option ℕ) (changed : IsChanged f f' a v d) where
  pub value_here : value_at f' a ≡ v
  value_here = changed.values a ∙ ap (λ b. if b then v else value_at f a) (is_same a)

  pub value_other : (n : ℕ) → n ≢ a → value_at f' n ≡ value_at f n
  value_other n ne = changed.values n ∙ ap (λ b. if b then v else value_at f n) (is_other n a ne)

  pub parent_here : node_parent f' a ≡ d
  parent_here = changed.parents a ∙ ap (λ b. if b then d else node_parent f a) (is_same a)

  pub parent_other : (n : ℕ) → n ≢ a → node_parent f' n ≡ node_parent f n
  parent_other n ne = changed.parents n ∙ ap (λ b. if b then d else node_parent f n) (is_other n a ne)

  live_other : (n : ℕ) → n ≢ a → IsLive f' n → IsLive f n
  live_other n ne live = subst (λ o. is_some o ≡ true) (value_other n ne) live

  -- components stay different if the one that comes is not there
  pub names_changed : HasNames f
      → ((node : NameNode) → v ≡ Some node → (is_component node.part ≡ true) × HasNoChild f d (key_of node.part)) → HasNames f'
  names_changed names fits = record {
    parts = λ n node e. part n node e (n == a) refl;
    apart = λ m n lm ln ep ek. by m n lm ln ep ek (m == a) (n == a) refl refl;
  }
    where
      part : (n : ℕ) (node : NameNode) → value_at f' n ≡ Some node → (b : Bool) → b ≡ (n == a) → is_component node.part ≡ true
      part n node e true t = (fits node (sym value_here ∙ ap (value_at f') (sym (same_of n a t)) ∙ e)).0
      part n node e false t = names.parts n node (sym (value_other n (other_of n a t)) ∙ e)

      clash : (o : Option NameNode) → v ≡ o → is_some o ≡ true → (n : ℕ) → IsChild f d (key_by o) n → ⊥
      clash None e live n child = false≢true live
      clash (Some node) e live n child = (fits node e).1 n child

      one_changed : (m n : ℕ) → m ≡ a → n ≢ a → IsLive f' m → IsLive f' n → node_parent f' m ≡ node_parent f' n → key_at f' m ≡ key_at f' n → ⊥
      one_changed m n same ne lm ln ep ek =
          let vm : value_at f' m ≡ v = ap (value_at f') same ∙ value_here in
          let pm : node_parent f' m ≡ d = ap (node_parent f') same ∙ parent_here in
          clash v refl (subst (λ o. is_some o ≡ true) vm lm) n
          (live_other n ne ln, sym (parent_other n ne) ∙ sym ep ∙ pm, ap key_by (sym (value_other n ne)) ∙ sym ek ∙ ap key_by vm)

      by : (m n : ℕ) → IsLive f' m → IsLive f' n → node_parent f' m ≡ node_parent f' n → key_at f' m ≡ key_at f' n
          → (s t : Bool) → s ≡ (m == a) → t ≡ (n == a) → m ≡ n
      by m n lm ln ep ek true true s t = same_of m a s ∙ sym (same_of n a t)
      by m n lm ln ep ek true false s t = absurd (one_changed m n (same_of m a s) (other_of n a t) lm ln ep ek)
      by m n lm ln ep ek false true s t = absurd (one_changed n m (same_of n a t) (other_of m a s) ln lm (sym ep) (sym ek))
      by m n lm ln ep ek false false s t =
          let nm : m ≢ a = other_of m a s in
          let nn : n ≢ a = other_of n a t in
          names.apart m n (live_other m nm lm) (live_other n nn ln) (sym (parent_other m nm) ∙ ep ∙ parent_other n nn)
          (ap key_by (sym (value_other m nm)) ∙ ek ∙ ap key_by (value_other n nn))

  -- the index stays that of all nodes
  pub indexed_changed : {V W : Type 0} (index : ℕ × ℕ → Option V) (index' : ℕ × ℕ → Option W) → IsIndexed index f
      → ((q : ℕ × ℕ) → q.1 ≢ a → is_some (index q) ≡ true → is_some (index' q) ≡ true)
      → (is_some v ≡ true → is_some (index' (hash_of d (key_by v), a)) ≡ true)
      → (IsLive f' a → a < 2 ^ 64) → IsIndexed index' f'
  indexed_changed index index' indexed others here fits = (λ q there. entry q.0 q.1 (q.1 == a) refl there, λ n live. small n live (n == a) refl)
    where
      own : (h : ℕ) → (is_some v && (h == hash_of d (key_by v))) ≡ true → is_some (index' (h, a)) ≡ true
      own h there =
          let parts = and_parts (is_some v) (h == hash_of d (key_by v)) there in
          subst (λ k. is_some (index' (k, a)) ≡ true) (sym (same_of h (hash_of d (key_by v)) (sym parts.1))) (here parts.0)

      entry : (h n : ℕ) (b : Bool) → b ≡ (n == a) → is_entry f' (h, n) ≡ true → is_some (index' (h, n)) ≡ true
      entry h n true t there =
          subst (λ m. is_entry f' (h, m) ≡ true → is_some (index' (h, m)) ≡ true) (sym (same_of n a t))
          (λ at. own h (sym (λ i. is_some (value_here i) && (h == hash_of (parent_here i) (key_by (value_here i)))) ∙ at)) there
      entry h n false t there =
          let ne : n ≢ a = other_of n a t in
          others (h, n) ne (indexed.0 (h, n)
          (sym (λ i. is_some (value_other n ne i) && (h == hash_of (parent_other n ne i) (key_by (value_other n ne i)))) ∙ there))

      small : (n : ℕ) → IsLive f' n → (b : Bool) → b ≡ (n == a) → n < 2 ^ 64
      small n live true t = subst (λ m. m < 2 ^ 64) (sym (same_of n a t)) (fits (subst (λ m. IsLive f' m) (same_of n a t) live))
      small n live false t = indexed.1 n (live_other n (other_of n a t) live)

  module _ (shallow : IsShallow f.rows) (shallow' : IsShallow f'.rows) where
    -- a node whose path does not meet the one that changed keeps its name
    pub name_apart : (k n : ℕ) → ancestor f.rows k (Some n) ≡ None → ((j : ℕ) → ancestor f.rows j (Some n) ≡ Some a → ⊥) → name_of f' (Some n) ≡ name_of f (Some n)
    name_apart zero n h apart = absurd (cc)
    name_apart (suc k) n h apart =
        let ne : n ≢ a = λ e. apart 0 (ap (λ x. Some x) e) in
        name_step f' shallow' n
        ∙ (λ i. name_of f' (parent_other n ne i) ++ 92 ∷ key_by (value_other n ne i))
        ∙ ap (λ us. us ++ 92 ∷ key_at f n) (by (node_parent f n) refl h (name_apart k))
        ∙ sym (name_step f shallow n)
      where
        by : (o : Option ℕ) → node_parent f n ≡ o → ancestor f.rows k o ≡ None
            → ((p : ℕ) → ancestor f.rows k (Some p) ≡ None → ((j : ℕ) → ancestor f.rows j (Some p) ≡ Some a → ⊥) → name_of f' (Some p) ≡ name_of f (Some p))
            → name_of f' o ≡ name_of f o
        by None t h again = name_root f' ∙ sym (name_root f)
        by (Some p) t h again = again p h (λ j m. apart (suc j) (ap (ancestor f.rows j) t ∙ m))

    module _ (live_links : HasLiveLinks f) (names : HasNames f) (names' : HasNames f') (live_links' : HasLiveLinks f') where
      -- what is above a live node is live
      live_above : (j n : ℕ) → IsLive f n → ancestor f.rows j (Some n) ≡ Some a → IsLive f a
      live_above zero n live e = subst (λ m. IsLive f m) (named_alike (Some n) (Some a) e) live
        where
          number : Option ℕ → ℕ
          number None = n
          number (Some m) = m

          named_alike : (o u : Option ℕ) → o ≡ u → number o ≡ number u
          named_alike o u e = ap number e
      live_above (suc j) n live e = by (node_parent f n) refl e (live_above j)
        where
          by : (o : Option ℕ) → node_parent f n ≡ o → ancestor f.rows j o ≡ Some a → ((p : ℕ) → IsLive f p → ancestor f.rows j (Some p) ≡ Some a → IsLive f a) → IsLive f a
          by None t m again = absurd (cc)
          by (Some p) t m again = again p (live_links n p t).1 m

      module _ (new : value_at f a ≡ None) where
        -- a node more leaves the names of all
        pub name_kept : (n : ℕ) → IsLive f n → name_of f' (Some n) ≡ name_of f (Some n)
        name_kept n live = name_apart (suc (length f.rows)) n (shallow n) (λ j e. false≢true (ap is_some (sym new) ∙ live_above j n live e))

        pub name_new : IsThere f d → name_of f' (Some a) ≡ name_of f d ++ 92 ∷ key_by v
        name_new at = name_step f' shallow' a ∙ (λ i. name_of f' (parent_here i) ++ 92 ∷ key_by (value_here i)) ∙ ap (λ us. us ++ 92 ∷ key_by v) (by d at)
          where
            by : (o : Option ℕ) → IsThere f o → name_of f' o ≡ name_of f o
            by None at = name_root f' ∙ sym (name_root f)
            by (Some p) at = name_kept p at

        -- and puts its row among those that were there
        pub rows_added : (node : NameNode) → v ≡ Some node → IsThere f d
            → rows_of f' ≡ insert_entry by_unit (rows_of f) (name_of f d ++ 92 ∷ key_of node.part) node.object
        rows_added node is_node at =
            rows_match f' names' shallow' live_links' (insert_entry by_unit (rows_of f) key node.object)
            (rises_put key node.object (rows_of f) (rows_rise f)) (λ n w e. has n w e (n == a) refl) none
          where
            key : List ℕ
            key = name_of f d ++ 92 ∷ key_of node.part

            key_here : name_of f' (Some a) ≡ key
            key_here = name_new at ∙ ap (λ o. name_of f d ++ 92 ∷ key_by o) is_node

            object_of : Option NameNode → Option ℕ
            object_of None = None
            object_of (Some w) = Some w.object

            lookup_by : (other : List ℕ) (b : Bool) → is_key other key ≡ b
                → lookup (is_key other) (insert_entry by_unit (rows_of f) key node.object) ≡ (if b then Some node.object else lookup (is_key other) (rows_of f))
            lookup_by other b t = is_found key node.object other (rows_of f) ∙ ap (λ b. if b then Some node.object else lookup (is_key other) (rows_of f)) t

            has : (n : ℕ) (w : NameNode) → value_at f' n ≡ Some w → (b : Bool) → b ≡ (n == a)
                → lookup (is_key (name_of f' (Some n))) (insert_entry by_unit (rows_of f) key node.object) ≡ Some w.object
            has n w e true t =
                let same : n ≡ a = same_of n a t in
                let name : name_of f' (Some n) ≡ key = ap (λ m. name_of f' (Some m)) same ∙ key_here in
                lookup_by (name_of f' (Some n)) true (ap (λ us. is_key us key) name ∙ own_test key)
                ∙ ap object_of (sym is_node ∙ sym value_here ∙ ap (value_at f') (sym same) ∙ e)
            has n w e false t = by (is_key (name_of f' (Some n)) key) refl
              where
                ne : n ≢ a
                ne = other_of n a t

                there : value_at f n ≡ Some w
                there = sym (value_other n ne) ∙ e

                by : (b : Bool) → is_key (name_of f' (Some n)) key ≡ b
                    → lookup (is_key (name_of f' (Some n))) (insert_entry by_unit (rows_of f) key node.object) ≡ Some w.object
                by true s =
                    absurd (ne (one_node f' names' shallow' live_links' n a (ap is_some e) (ap is_some (value_here ∙ is_node)) (is_key_eq (name_of f' (Some n)) key s ∙ sym key_here)))
                by false s =
                    lookup_by (name_of f' (Some n)) false s ∙ ap (λ us. lookup (is_key us) (rows_of f)) (name_kept n (ap is_some there))
                    ∙ found_node f names shallow live_links n w there

            none : (other : List ℕ) → IsUnnamed f' other → lookup (is_key other) (insert_entry by_unit (rows_of f) key node.object) ≡ None
            none other missing = by (is_key other key) refl
              where
                by : (b : Bool) → is_key other key ≡ b → lookup (is_key other) (insert_entry by_unit (rows_of f) key node.object) ≡ None
                by true s = absurd (missing a (ap is_some (value_here ∙ is_node)) (key_here ∙ sym (is_key_eq other key s)))
                by false s =
                    lookup_by other false s
                    ∙ found_none f other (λ n live e. missing n (still n live) (name_kept n live ∙ e))
                  where
                    still : (n : ℕ) → IsLive f n → IsLive f' n
                    still n live = subst (λ o. is_some o ≡ true) (sym (value_other n (λ same. false≢true (ap is_some (sym new) ∙ subst (λ m. IsLive f m) same live)))) live

-- a node that is no parent is above no other
pub not_above : (f : Nodes) (a : ℕ) → ((x : ℕ) → node_parent f x ≡ Some a → ⊥) → (k p : ℕ) → p ≢ a → ancestor f.rows k (Some p) ≡ Some a → ⊥
not_above f a none zero p ne e = absurd (ne (number_alike e))
  where
    number : Option ℕ → ℕ
    number None = p
    number (Some m) = m

    number_alike : Some p ≡ Some a → p ≡ a
    number_alike e = ap number e
not_above f a none (suc k) p ne e = by (node_parent f p) refl e (not_above f a none k)
  where
    by : (o : Option ℕ) → node_parent f p ≡ o → ancestor f.rows k o ≡ Some a → ((q : ℕ) → q ≢ a → ancestor f.rows k (Some q) ≡ Some a → ⊥) → ⊥
    by None t m again = absurd (cc)
    by (Some q) t m again = again q (λ same. none p (t ∙ ap (λ x. Some x) same)) m

-- a node that was added is above no other
pub apart_new : AddsLeaveParents NameNode → NumbersAreFree NameNode → (f : Nodes) (w : NameNode) (p : ℕ) → IsSound f → length f.rows ≡ length f.values
    → HasLiveLinks f → IsLive f p → IsAbove (with_node f w) (node_number f) p → ⊥
apart_new leaves frees f w p sound even live_links live above =
    let free = frees f sound even in
    not_above (with_node f w) (node_number f)
    (λ x e. false≢true (sym (ap is_some free.0) ∙ (live_links x (node_number f) (sym (leaves f w x) ∙ e)).1))
    above.0 p (λ same. false≢true (sym (ap is_some free.0) ∙ subst (λ m. IsLive f m) same live)) above.1

-- a node that is added and linked is all that changed
pub added_changes : AddsLeaveParents NameNode → AddsSetValues NameNode → NumbersAreFree NameNode → LinksSetParents NameNode
    → (f : Nodes) (w : NameNode) → IsSound f → length f.rows ≡ length f.values
    → IsChanged f (with_node f w) (node_number f) (Some w) None
added_changes leaves sets frees links f w sound even = record {
  values = λ n. sets f w n sound even;
  parents = λ n. leaves f w n ∙ by n (n == node_number f) refl;
}
  where
    by : (n : ℕ) (b : Bool) → b ≡ (n == node_number f) → node_parent f n ≡ (if b then None else node_parent f n)
    by n true t = ap (node_parent f) (same_of n (node_number f) t) ∙ (frees f sound even).1
    by n false t = refl

pub linked_changes : LinksSetParents NameNode → (f f1 : Nodes) (a p : ℕ) (v : Option NameNode) → IsChanged f f1 a v None
    → a < length f1.rows → p < length f1.rows → IsChanged f (with_child f1 a p) a v (Some p)
linked_changes links f f1 a p v changed in_a in_p = record {
  values = changed.values;
  parents = λ n. links f1 a p n in_a in_p ∙ by n (n == a) refl;
}
  where
    by : (n : ℕ) (b : Bool) → b ≡ (n == a) → (if b then Some p else node_parent f1 n) ≡ (if b then Some p else node_parent f n)
    by n true t = refl
    by n false t = changed.parents n ∙ ap (λ b. if b then None else node_parent f n) (sym t)

-- one more node leaves the others
pub keeps_nodes : (f f' : Nodes) (a : ℕ) (v : Option NameNode) (d : Option ℕ) → IsChanged f f' a v d → value_at f a ≡ None → KeepsNodes f f'
keeps_nodes f f' a v d changed new n live =
    let ne : n ≢ a = λ same. false≢true (sym (ap is_some new) ∙ subst (λ m. IsLive f m) same live) in
    (value_other f f' a v d changed n ne, parent_other f f' a v d changed n ne)
