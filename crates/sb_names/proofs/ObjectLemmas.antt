-- The index from objects to nodes, and the name of a node that is walked from its last component to the first.
use Rattle.std.proofs.Common.{◌≡◌, ◌<◌, ◌+◌, ◌-◌, ◌^◌, ◌==◌, ℕ, Bool, true, false, cond, refl, sym, subst, ◌∙◌, ap, arith, zero, suc, List, [], ◌∷◌, ◌++◌, length, reverse}
use Rattle.std.proofs.lemmas.Bool.{and_parts, false≢true}
use Rattle.std.proofs.lemmas.Bool.Decides.{nat_tests}
use Rattle.std.proofs.lemmas.List.{append_assoc, length-append}
use Rattle.std.specs.Prelude.{Option, None, Some, is_some, option_map, not}
use Rattle.std.specs.BTreeMap.{BTreeMap, IsUnchanged, get, insert_entry, is_at}
use Rattle.std.specs.BTreeMap.Range.{entries_between}
use Rattle.std.specs.declared.ops.Bound.TheVariants.{Included}
use Rattle.std.specs.List.{find, list_all}
use Rattle.std.specs.Map.{lookup}
use Rattle.std.specs.Ordering.{match_ordering}
use Rattle.std.specs.declared.cmp.Ordering.{Ordering}
use Rattle.std.specs.declared.cmp.Ordering.TheVariants.{Less, Equal, Greater}
use Rattle.sb_arena.specs.Forests.{HasLiveLinks, IsLive, IsShallow, parent_of as node_parent, value_at, with_vacancy}
use Rattle.sb_arena.specs.Laws.{VacanciesLeaveNodes}
use Rattle.sb_names.specs.Keys.{key_of}
use Rattle.sb_names.specs.Maps.{Rows, is_key}
use Rattle.sb_names.specs.Nodes.{Nodes, HasNames, IsChanged, IsThere, key_at, key_by, name_of, rows_below, rows_of, with_row}
use Rattle.sb_names.specs.Objects.{HasNoHolder, HasObjects, IsNameOf, has_object}
use Rattle.sb_base.specs.Orders.{by_pair}
use Rattle.sb_names.specs.declared.trees.NameNode.{NameNode}
use Rattle.sb_names.proofs.Changes.{same_of, other_of, value_here, value_other}
use Rattle.sb_names.proofs.IndexLemmas.{met, none_passes}
use Rattle.sb_names.proofs.NodeLemmas.{found_node, name_root, name_step}
use Rattle.sb_names.proofs.PutLemmas.{kept_on}
use Rattle.sb_names.proofs.RisingLemmas.{by_unit}

-- who has an object is there
has_value : (o : Option NameNode) (number : ℕ) → has_object o number ≡ true → is_some o ≡ true
has_value None number h = absurd (false≢true h)
has_value (Some node) number h = refl

-- if no node among those with the object's pair has it, no node has it
pub no_holder : {X : Type 0} (f : Nodes) (m : BTreeMap (ℕ × ℕ) X) (number : ℕ) (rest range : List ((ℕ × ℕ) × X))
    → HasObjects (get by_pair m) f → ((n : ℕ) → IsLive f n → n < 2 ^ 64)
    → range ≡ entries_between by_pair (Included (number, 0)) (Included (number, 2 ^ 64 - 1)) m.entries
    → find (λ row. has_object (value_at f row.0.1) number) rest ≡ find (λ row. has_object (value_at f row.0.1) number) range
    → rest ≡ [] → HasNoHolder f number
no_holder {X = X} f m number rest range objects small between same none n = by (has_object (value_at f n) number) refl
  where
    by : (b : Bool) → has_object (value_at f n) number ≡ b → b ≡ false
    by false e = refl
    by true e =
        absurd (met number n (small n (has_value (value_at f n) number e)) (λ n. has_object (value_at f n) number) e m.entries (objects (number, n) e)
        (ap (find (λ row. has_object (value_at f row.0.1) number)) (sym between) ∙ sym same
        ∙ none_passes (λ row. has_object (value_at f row.0.1) number) rest none))

pub more_objects : {V : Type 0} (f : Nodes) (objects objects' : ℕ × ℕ → Option V) (u : V) (p : ℕ × ℕ) → HasObjects objects f
    → ((q : ℕ × ℕ) → objects' q ≡ cond (is_at (by_pair p) q) (Some u) (objects q)) → HasObjects objects' f
more_objects f objects objects' u p has updates q there = ap is_some (updates q) ∙ kept_on _ _ _ (has q there)

pub same_objects : {X : Type 0} (f : Nodes) (m n : BTreeMap (ℕ × ℕ) X) → IsUnchanged m n → HasObjects (get by_pair m) f → HasObjects (get by_pair n) f
same_objects f m n same has q there = ap (λ es. is_some (lookup (is_at (by_pair q)) es)) same ∙ has q there

pub vacancy_objects : {V : Type 0} → VacanciesLeaveNodes NameNode → (f : Nodes) (objects : ℕ × ℕ → Option V) → HasObjects objects f → HasObjects objects (with_vacancy f)
vacancy_objects vacancies f objects has q there = has q (ap (λ o. has_object o q.0) (sym (vacancies f q.1).0) ∙ there)

-- one node has changed, and the index has its pair
pub changed_objects : {V : Type 0} (f f' : Nodes) (a : ℕ) (w : NameNode) (d : Option ℕ) → IsChanged f f' a (Some w) d → (objects : ℕ × ℕ → Option V)
    → HasObjects objects f → is_some (objects (w.object, a)) ≡ true → HasObjects objects f'
changed_objects f f' a w d changed objects has here (o, n) there = by (n == a) refl
  where
    by : (b : Bool) → b ≡ (n == a) → is_some (objects (o, n)) ≡ true
    by true t =
        let same : n ≡ a = same_of n a t in
        let held : (w.object == o) ≡ true =
        ap (λ v. has_object v o) (sym (value_here f f' a (Some w) d changed) ∙ ap (value_at f') (sym same)) ∙ there in
        let is_object : w.object ≡ o = grind (arith, nat_tests, held) in
        subst (λ p. is_some (objects p) ≡ true) (λ i. (is_object i, sym same i)) here
    by false t = has (o, n) (ap (λ v. has_object v o) (sym (value_other f f' a (Some w) d changed n (other_of n a t))) ∙ there)

-- a node that keeps its object has its pair
pub own_object : {V : Type 0} (f : Nodes) (objects : ℕ × ℕ → Option V) (a object : ℕ) (old : NameNode) → HasObjects objects f → value_at f a ≡ Some old
    → object ≡ old.object → is_some (objects (object, a)) ≡ true
own_object f objects a object old has is_old same =
    let own : (old.object == object) ≡ true = grind (arith, nat_tests, same) in
    has (object, a) (ap (λ v. has_object v object) is_old ∙ own)

-- rows with one more, whose object is another
others_put : (number : ℕ) (key : List ℕ) (object : ℕ) (rows : Rows ℕ) → list_all (λ row. not (row.1 == number)) rows ≡ true → (object == number) ≡ false
    → list_all (λ row. not (row.1 == number)) (insert_entry by_unit rows key object) ≡ true
others_put number key object [] all ne = rw ne refl
others_put number key object (row ∷ rows) all ne =
    let parts = and_parts (not (row.1 == number)) (list_all (λ row. not (row.1 == number)) rows) all in
    by (by_unit key row.0) parts.0 parts.1 (others_put number key object rows parts.1 ne)
  where
    by : (o : Ordering) → not (row.1 == number) ≡ true → list_all (λ row. not (row.1 == number)) rows ≡ true
        → list_all (λ row. not (row.1 == number)) (insert_entry by_unit rows key object) ≡ true
        → list_all (λ row. not (row.1 == number)) (match_ordering o ((key, object) ∷ row ∷ rows) ((row.0, object) ∷ rows) (row ∷ insert_entry by_unit rows key object)) ≡ true
    by Less first rest i = rw (ne, first) rest
    by Equal first rest i = rw ne rest
    by Greater first rest i = rw first i

-- if no node has an object, no row has it
pub none_holds : (f : Nodes) (number : ℕ) → HasNoHolder f number → IsNameOf (rows_of f) number None
unfolding rows_of
none_holds f number none = up_to (length f.values)
  where
    up_to : (k : ℕ) → list_all (λ row. not (row.1 == number)) (rows_below f k) ≡ true
    up_to zero = refl
    up_to (suc k) = by (value_at f k) (none k) (up_to k)
      where
        by : (o : Option NameNode) → has_object o number ≡ false → list_all (λ row. not (row.1 == number)) (rows_below f k) ≡ true
            → list_all (λ row. not (row.1 == number)) (with_row o (name_of f (Some k)) (rows_below f k)) ≡ true
        by None e i = i
        by (Some w) e i = others_put number (name_of f (Some k)) w.object (rows_below f k) i e

-- the name of a node that has an object is that of a row with it
pub holder_named : (f : Nodes) → HasNames f → IsShallow f.rows → HasLiveLinks f → (n number : ℕ) (name : List ℕ) → has_object (value_at f n) number ≡ true
    → name ≡ name_of f (Some n) → IsNameOf (rows_of f) number (Some name)
holder_named f names shallow live n number name held is_name = by (value_at f n) refl held
  where
    by : (o : Option NameNode) → value_at f n ≡ o → has_object o number ≡ true → option_map (λ n. n) (lookup (is_key name) (rows_of f)) ≡ Some number
    by None e h = absurd (false≢true h)
    by (Some node) e h =
        let same : node.object ≡ number = grind (arith, nat_tests, h) in
        ap (λ key. option_map (λ n. n) (lookup (is_key key) (rows_of f))) is_name
        ∙ ap (option_map (λ n. n)) (found_node f names shallow live n node e) ∙ ap (λ m. Some m) same

pub holder_live : (f : Nodes) (n number : ℕ) → has_object (value_at f n) number ≡ true → IsLive f n
holder_live f n number h = has_value (value_at f n) number h

-- the directory of a node is there
pub above_there : (f : Nodes) → HasLiveLinks f → (n : ℕ) → IsThere f (node_parent f n)
above_there f live n = by (node_parent f n) refl
  where
    by : (o : Option ℕ) → node_parent f n ≡ o → IsThere f o
    by None e = tt
    by (Some p) e = (live n p e).1

module _ (f : Nodes) (shallow : IsShallow f.rows) where
  -- one directory more, from the end
  pub climbed : (n : ℕ) (node : NameNode) (units more name : List ℕ) → value_at f n ≡ Some node → name ≡ name_of f (Some n) ++ reverse units
      → reverse more ≡ 92 ∷ (key_of node.part ++ reverse units) → name ≡ name_of f (node_parent f n) ++ reverse more
  climbed n node units more name is_node e pushed =
      e ∙ ap (λ us. us ++ reverse units) (name_step f shallow n ∙ ap (λ o. name_of f (node_parent f n) ++ 92 ∷ key_by o) is_node)
      ∙ append_assoc (name_of f (node_parent f n)) (92 ∷ key_of node.part) (reverse units)
      ∙ ap (λ us. name_of f (node_parent f n) ++ us) (sym pushed)

  pub shorter_above : (n : ℕ) → length (name_of f (node_parent f n)) < length (name_of f (Some n))
  shorter_above n =
      let e : length (name_of f (Some n)) ≡ length (name_of f (node_parent f n)) + suc (length (key_at f n)) =
      ap length (name_step f shallow n) ∙ length-append (name_of f (node_parent f n)) (92 ∷ key_at f n) in
      omega (arith, e)

  pub at_root : (units name : List ℕ) → name ≡ name_of f None ++ reverse units → name ≡ reverse units
  at_root units name e = e ∙ ap (λ us. us ++ reverse units) (name_root f)
