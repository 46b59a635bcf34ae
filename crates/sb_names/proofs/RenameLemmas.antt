-- The rows after a node was renamed: each name that is at or below it begins with the new name, and every other stays.
use Rattle.std.proofs.Common.{◌≡◌, ◌≢◌, ◌==◌, ℕ, Bool, true, false, cond, refl, sym, ◌∙◌, ap, subst, arith, zero, suc, List, [], ◌∷◌, ◌++◌, length, drop, map, nat_eq, if◌then◌else◌}
use Rattle.std.proofs.lemmas.Bool.{false≢true}
use Rattle.std.proofs.lemmas.Bool.Decides.{nat_tests}
use Rattle.std.proofs.lemmas.List.{append-nil}
use Rattle.std.proofs.Math.Seq.{drop-append_seam}
use Rattle.std.specs.Prelude.{Option, Some, None, is_some, ◌&&◌, ◌||◌}
use Rattle.std.specs.List.{AllByRecursion, list_any}
use Rattle.std.specs.Map.{keys_of, lookup}
use Rattle.sb_arena.specs.Forests.{IsLive, value_at, parent_of as node_parent, ancestor, IsShallow, HasLiveLinks}
use Rattle.sb_names.specs.Keys.{key_of, parent_of, is_backslash, is_below}
use Rattle.sb_names.specs.Maps.{Rows, Rises, is_key}
use Rattle.sb_names.specs.Nodes.{Nodes, HasNames, IsChanged, IsUnnamed, is_path, key_at, key_by, name_of, rows_of}
use Rattle.sb_names.specs.Renames.{collected, is_at_or_below, renamed_key}
use Rattle.sb_names.specs.declared.trees.NameNode.{NameNode}
use Rattle.sb_names.proofs.Changes.{name_apart, parent_here, parent_other, rows_match, same_of, other_of, value_here, value_other}
use Rattle.sb_names.proofs.MapLaws.{is_found, own_test, is_key_eq}
use Rattle.sb_names.proofs.NameLemmas.{parent_is_path, parent_last, parent_path}
use Rattle.sb_names.proofs.NodeLemmas.{found_node, key_plain, name_root, name_step, not_root, one_node, joined}
use Rattle.sb_names.proofs.Removals.{all_rows_named}
use Rattle.sb_names.proofs.RisingLemmas.{rises_none, rises_put}

-- a key at or below another is the other with a path after it
pub with_path : (key rest : List ℕ) → is_at_or_below key (key ++ rest) ≡ is_path rest
with_path [] [] = refl
with_path [] (u ∷ us) = refl
with_path (k ∷ key) rest =
    let same : nat_eq k k ≡ true = grind (arith, nat_tests) in
    rw same (with_path key rest)

pub has_path : (key other : List ℕ) → is_at_or_below key other ≡ true → (other ≡ key ++ drop (length key) other) × (is_path (drop (length key) other) ≡ true)
has_path [] [] h = (refl, refl)
has_path [] (u ∷ us) h = (refl, h)
has_path (k ∷ key) [] h = absurd (false≢true h)
has_path (k ∷ key) (u ∷ us) h = by (k == u) refl h (has_path key us)
  where
    by : (b : Bool) → (k == u) ≡ b → ((b && is_key key us) || (b && is_below key us)) ≡ true
        → (is_at_or_below key us ≡ true → (us ≡ key ++ drop (length key) us) × (is_path (drop (length key) us) ≡ true))
        → (u ∷ us ≡ k ∷ (key ++ drop (length key) us)) × (is_path (drop (length key) us) ≡ true)
    by true e h f =
        let same : u ≡ k = grind (arith, nat_tests, e) in
        ((λ i. same i ∷ (f h).0 i), (f h).1)
    by false e h f = absurd (false≢true h)

path_more : (r y : List ℕ) → is_path r ≡ true → is_path (r ++ 92 ∷ y) ≡ true
path_more [] y h = refl
path_more (u ∷ us) y h = h

-- a name that is not the key itself is below it if its directory is at it or below
pub below_by_parent : (key x y : List ℕ) → list_any is_backslash y ≡ false → (key ≡ x ++ 92 ∷ y → ⊥) → is_at_or_below key (x ++ 92 ∷ y) ≡ is_at_or_below key x
below_by_parent key x y plain ne = by (is_at_or_below key x) refl (is_at_or_below key (x ++ 92 ∷ y)) refl
  where
    up : is_at_or_below key (x ++ 92 ∷ y) ≡ true → is_at_or_below key x ≡ true
    up h =
        let parts = has_path key (x ++ 92 ∷ y) h in
        by_rest (drop (length key) (x ++ 92 ∷ y)) parts.0 parts.1
      where
        by_rest : (rest : List ℕ) → x ++ 92 ∷ y ≡ key ++ rest → is_path rest ≡ true → is_at_or_below key x ≡ true
        by_rest [] e p = absurd (ne (sym (e ∙ append-nil key)))
        by_rest (u ∷ us) e p =
            let bar : u ≡ 92 = grind (arith, nat_tests, p) in
            let front : x ≡ key ++ parent_of (92 ∷ us) =
            sym (parent_last x y plain) ∙ ap parent_of (e ∙ ap (λ b. key ++ b ∷ us) bar) ∙ parent_path key us in
            ap (is_at_or_below key) front ∙ with_path key (parent_of (92 ∷ us)) ∙ parent_is_path us

    down : is_at_or_below key x ≡ true → is_at_or_below key (x ++ 92 ∷ y) ≡ true
    down h =
        let parts = has_path key x h in
        ap (λ us. is_at_or_below key (us ++ 92 ∷ y)) parts.0 ∙ ap (is_at_or_below key) (sym (joined key (drop (length key) x) (92 ∷ y)))
        ∙ with_path key (drop (length key) x ++ 92 ∷ y) ∙ path_more (drop (length key) x) y parts.1

    by : (s : Bool) → is_at_or_below key x ≡ s → (t : Bool) → is_at_or_below key (x ++ 92 ∷ y) ≡ t → t ≡ s
    by true s true t = refl
    by false s false t = refl
    by true s false t = sym t ∙ down s
    by false s true t = sym (sym s ∙ up t)

-- a name in a directory is renamed as the directory is
pub renamed_by_parent : (from to x y : List ℕ) → list_any is_backslash y ≡ false → (from ≡ x ++ 92 ∷ y → ⊥)
    → renamed_key from to (x ++ 92 ∷ y) ≡ renamed_key from to x ++ 92 ∷ y
renamed_by_parent from to x y plain ne =
    ap (λ b. if b then to ++ drop (length from) (x ++ 92 ∷ y) else (x ++ 92 ∷ y)) (below_by_parent from x y plain ne) ∙ by (is_at_or_below from x) refl
  where
    by : (b : Bool) → is_at_or_below from x ≡ b
        → (if b then to ++ drop (length from) (x ++ 92 ∷ y) else (x ++ 92 ∷ y)) ≡ (if b then to ++ drop (length from) x else x) ++ 92 ∷ y
    by false e = refl
    by true e =
        let parts = has_path from x e in
        let rest = drop (length from) x in
        let whole : x ++ 92 ∷ y ≡ from ++ (rest ++ 92 ∷ y) = ap (λ us. us ++ 92 ∷ y) parts.0 ∙ sym (joined from rest (92 ∷ y)) in
        ap (λ us. to ++ us) (ap (drop (length from)) whole ∙ drop-append_seam from (rest ++ 92 ∷ y)) ∙ joined to rest (92 ∷ y)

-- the key itself is renamed to the new one
pub renamed_itself : (from to : List ℕ) → renamed_key from to from ≡ to
renamed_itself from to =
    let at : is_at_or_below from from ≡ true = ap (is_at_or_below from) (sym (append-nil from)) ∙ with_path from [] in
    let rest : drop (length from) from ≡ [] = ap (drop (length from)) (sym (append-nil from)) ∙ drop-append_seam from [] in
    ap (λ b. if b then to ++ drop (length from) from else from) at ∙ ap (λ us. to ++ us) rest ∙ append-nil to

renamed_root : (from to : List ℕ) → (from ≡ [] → ⊥) → renamed_key from to [] ≡ []
renamed_root [] to some = absurd (some refl)
renamed_root (u ∷ us) to some = refl

abbrev under : (List ℕ → List ℕ) → Rows ℕ → Rows ℕ
under g rows = collected (map (λ row. (g row.0, row.1)) rows)

rises_collected : (rows : Rows ℕ) → Rises (collected rows)
rises_collected [] = rises_none ℕ
rises_collected (row ∷ rows) = rises_put row.0 row.1 (collected rows) (rises_collected rows)

-- what is found under a new key, which is that of one row alone
pub found_under : (g : List ℕ → List ℕ) (key : List ℕ) (v : ℕ) (rows : Rows ℕ) → AllByRecursion (λ k. g k ≡ g key → k ≡ key) (keys_of rows)
    → lookup (is_key key) rows ≡ Some v → lookup (is_key (g key)) (under g rows) ≡ Some v
found_under g key v [] one e = absurd (false≢true (ap is_some e))
found_under g key v (row ∷ rows) one e =
    is_found (g row.0) row.1 (g key) (under g rows) ∙ by (is_key key row.0) refl e (is_key (g key) (g row.0)) refl (found_under g key v rows one.1)
  where
    by : (b : Bool) → is_key key row.0 ≡ b → cond b (Some row.1) (lookup (is_key key) rows) ≡ Some v → (c : Bool) → is_key (g key) (g row.0) ≡ c
        → (lookup (is_key key) rows ≡ Some v → lookup (is_key (g key)) (under g rows) ≡ Some v)
        → (if c then Some row.1 else lookup (is_key (g key)) (under g rows)) ≡ Some v
    by true s e true t again = e
    by true s e false t again =
        absurd (false≢true (sym t ∙ ap (λ k. is_key (g key) (g k)) (sym (is_key_eq key row.0 s)) ∙ own_test (g key)))
    by false s e true t again =
        let same : row.0 ≡ key = one.0 (sym (is_key_eq (g key) (g row.0) t)) in
        absurd (false≢true (sym s ∙ ap (is_key key) same ∙ own_test key))
    by false s e false t again = again e

none_under : (g : List ℕ → List ℕ) (other : List ℕ) (rows : Rows ℕ) → AllByRecursion (λ k. is_key other (g k) ≡ false) (keys_of rows)
    → lookup (is_key other) (under g rows) ≡ None
none_under g other [] none = refl
none_under g other (row ∷ rows) none =
    is_found (g row.0) row.1 other (under g rows) ∙ ap (λ b. if b then Some row.1 else lookup (is_key other) (under g rows)) none.0 ∙ none_under g other rows none.1

module _ (f f' : Nodes) (a : ℕ) (w : NameNode) (d : Option ℕ) (changed : IsChanged f f' a (Some w) d) (shallow : IsShallow f.rows) (shallow' : IsShallow f'.rows)
    (live_links : HasLiveLinks f) (live_links' : HasLiveLinks f') (names : HasNames f) (names' : HasNames f') (live : IsLive f a)
    (apart : (p : ℕ) → d ≡ Some p → (j : ℕ) → ancestor f.rows j (Some p) ≡ Some a → ⊥) where
  abbrev pub from : List ℕ
  from = name_of f (Some a)

  abbrev pub to : List ℕ
  to = name_of f d ++ 92 ∷ key_of w.part

  directory_stays : name_of f' d ≡ name_of f d
  directory_stays = by d refl
    where
      by : (o : Option ℕ) → d ≡ o → name_of f' o ≡ name_of f o
      by None e = name_root f' ∙ sym (name_root f)
      by (Some p) e = name_apart f f' a (Some w) d changed shallow shallow' (suc (length f.rows)) p (shallow p) (apart p e)

  pub name_here : name_of f' (Some a) ≡ to
  name_here =
      name_step f' shallow' a ∙ (λ i. name_of f' (parent_here f f' a (Some w) d changed i) ++ 92 ∷ key_by (value_here f f' a (Some w) d changed i))
      ∙ ap (λ us. us ++ 92 ∷ key_of w.part) directory_stays

  -- the name of each node after the rename
  name_renamed : (k n : ℕ) → ancestor f.rows k (Some n) ≡ None → IsLive f n → name_of f' (Some n) ≡ renamed_key from to (name_of f (Some n))
  name_renamed zero n h there = absurd (cc)
  name_renamed (suc k) n h there = by (n == a) refl (up (node_parent f n) refl h (name_renamed k))
    where
      up : (o : Option ℕ) → node_parent f n ≡ o → ancestor f.rows k o ≡ None
          → ((p : ℕ) → ancestor f.rows k (Some p) ≡ None → IsLive f p → name_of f' (Some p) ≡ renamed_key from to (name_of f (Some p)))
          → name_of f' o ≡ renamed_key from to (name_of f o)
      up None e m again =
          name_root f' ∙ sym (renamed_root from to (not_root f names shallow live_links a)) ∙ ap (renamed_key from to) (sym (name_root f))
      up (Some p) e m again = again p m (live_links n p e).1

      by : (b : Bool) → b ≡ (n == a) → name_of f' (node_parent f n) ≡ renamed_key from to (name_of f (node_parent f n))
          → name_of f' (Some n) ≡ renamed_key from to (name_of f (Some n))
      by true t above =
          let same : n ≡ a = same_of n a t in
          ap (λ m. name_of f' (Some m)) same ∙ name_here ∙ sym (renamed_itself from to) ∙ ap (λ m. renamed_key from to (name_of f (Some m))) (sym same)
      by false t above =
          let ne : n ≢ a = other_of n a t in
          let step = name_step f shallow n in
          let other : from ≡ name_of f (node_parent f n) ++ 92 ∷ key_at f n → ⊥ =
          λ e. ne (one_node f names shallow live_links n a there live (step ∙ sym e)) in
          name_step f' shallow' n
          ∙ (λ i. name_of f' (parent_other f f' a (Some w) d changed n ne i) ++ 92 ∷ key_by (value_other f f' a (Some w) d changed n ne i))
          ∙ ap (λ us. us ++ 92 ∷ key_at f n) above
          ∙ sym (renamed_by_parent from to (name_of f (node_parent f n)) (key_at f n) (key_plain f names n there) other)
          ∙ ap (renamed_key from to) (sym step)

  pub name_after : (n : ℕ) → IsLive f n → name_of f' (Some n) ≡ renamed_key from to (name_of f (Some n))
  name_after n there = name_renamed (suc (length f.rows)) n (shallow n) there

  pub live_before : (n : ℕ) → IsLive f' n → IsLive f n
  live_before n there = by (n == a) refl
    where
      by : (b : Bool) → b ≡ (n == a) → IsLive f n
      by true t = subst (λ m. IsLive f m) (sym (same_of n a t)) live
      by false t = subst (λ o. is_some o ≡ true) (value_other f f' a (Some w) d changed n (other_of n a t)) there

  pub live_after : (n : ℕ) → IsLive f n → IsLive f' n
  live_after n there = by (n == a) refl
    where
      by : (b : Bool) → b ≡ (n == a) → IsLive f' n
      by true t = subst (λ m. IsLive f' m) (sym (same_of n a t)) (ap is_some (value_here f f' a (Some w) d changed))
      by false t = subst (λ o. is_some o ≡ true) (sym (value_other f f' a (Some w) d changed n (other_of n a t))) there

  -- each row has its new key, and the object that it had
  pub rows_renamed : ((v : NameNode) → value_at f a ≡ Some v → v.object ≡ w.object)
      → rows_of f' ≡ collected (map (λ row. (renamed_key from to row.0, row.1)) (rows_of f))
  rows_renamed keeps = rows_match f' names' shallow' live_links' (under (renamed_key from to) (rows_of f)) (rises_collected (map (λ row. (renamed_key from to row.0, row.1)) (rows_of f))) has none
    where
      one_of : (n : ℕ) → IsLive f n → (m : ℕ) → IsLive f m
          → renamed_key from to (name_of f (Some m)) ≡ renamed_key from to (name_of f (Some n)) → name_of f (Some m) ≡ name_of f (Some n)
      one_of n ln m lm e =
          ap (λ k. name_of f (Some k)) (one_node f' names' shallow' live_links' m n (live_after m lm) (live_after n ln) (name_after m lm ∙ e ∙ sym (name_after n ln)))

      put_under : (n : ℕ) (v : NameNode) → value_at f n ≡ Some v
          → lookup (is_key (name_of f' (Some n))) (under (renamed_key from to) (rows_of f)) ≡ Some v.object
      put_under n v e =
          let there = ap is_some e in
          ap (λ us. lookup (is_key us) (under (renamed_key from to) (rows_of f))) (name_after n there)
          ∙ found_under (renamed_key from to) (name_of f (Some n)) v.object (rows_of f)
          (all_rows_named f names shallow live_links (λ k. renamed_key from to k ≡ renamed_key from to (name_of f (Some n)) → k ≡ name_of f (Some n)) (one_of n there))
          (found_node f names shallow live_links n v e)

      has : (n : ℕ) (v : NameNode) → value_at f' n ≡ Some v → lookup (is_key (name_of f' (Some n))) (under (renamed_key from to) (rows_of f)) ≡ Some v.object
      has n v e = by (value_at f n) refl (n == a) refl
        where
          object_of : Option NameNode → ℕ
          object_of None = 0
          object_of (Some v) = v.object

          by : (o : Option NameNode) → value_at f n ≡ o → (b : Bool) → b ≡ (n == a)
              → lookup (is_key (name_of f' (Some n))) (under (renamed_key from to) (rows_of f)) ≡ Some v.object
          by None s b t = absurd (false≢true (sym (ap is_some s) ∙ live_before n (ap is_some e)))
          by (Some v') s true t =
              let same : n ≡ a = same_of n a t in
              let new : w.object ≡ v.object = ap object_of (sym (value_here f f' a (Some w) d changed) ∙ ap (value_at f') (sym same) ∙ e) in
              put_under n v' s ∙ ap (λ x. Some x) (keeps v' (ap (value_at f) (sym same) ∙ s) ∙ new)
          by (Some v') s false t = put_under n v (sym (value_other f f' a (Some w) d changed n (other_of n a t)) ∙ e)

      none : (other : List ℕ) → IsUnnamed f' other → lookup (is_key other) (under (renamed_key from to) (rows_of f)) ≡ None
      none other missing =
          none_under (renamed_key from to) other (rows_of f)
          (all_rows_named f names shallow live_links (λ k. is_key other (renamed_key from to k) ≡ false) (λ n there. by n there (is_key other (renamed_key from to (name_of f (Some n)))) refl))
        where
          by : (n : ℕ) → IsLive f n → (b : Bool) → is_key other (renamed_key from to (name_of f (Some n))) ≡ b → b ≡ false
          by n there false t = refl
          by n there true t =
              absurd (missing n (live_after n there) (name_after n there ∙ sym (is_key_eq other (renamed_key from to (name_of f (Some n))) t)))

-- what lies in a directory at or below a key lies below it
pub below_more : (key x y : List ℕ) → is_at_or_below key x ≡ true → is_below key (x ++ 92 ∷ y) ≡ true
below_more [] [] y h = refl
below_more [] (u ∷ us) y h = h
below_more (k ∷ key) [] y h = absurd (false≢true h)
below_more (k ∷ key) (u ∷ us) y h = by (k == u) h (below_more key us y)
  where
    by : (b : Bool) → ((b && is_key key us) || (b && is_below key us)) ≡ true → (is_at_or_below key us ≡ true → is_below key (us ++ 92 ∷ y) ≡ true)
        → (b && is_below key (us ++ 92 ∷ y)) ≡ true
    by true h f = f h
    by false h f = absurd (false≢true h)

-- and is at it or below
pub within_more : (key x y : List ℕ) → is_at_or_below key x ≡ true → is_at_or_below key (x ++ 92 ∷ y) ≡ true
within_more key x y h = by (is_key key (x ++ 92 ∷ y)) (below_more key x y h)
  where
    by : (b : Bool) → is_below key (x ++ 92 ∷ y) ≡ true → (b || is_below key (x ++ 92 ∷ y)) ≡ true
    by true h = refl
    by false h = h

pub within_itself : (key : List ℕ) → is_at_or_below key key ≡ true
within_itself key = ap (is_at_or_below key) (sym (append-nil key)) ∙ with_path key []

module _ (f : Nodes) (shallow : IsShallow f.rows) (live_links : HasLiveLinks f) where
  -- what a node is above has a name at or below its own
  pub above_named : (a k p : ℕ) → ancestor f.rows k (Some p) ≡ Some a → is_at_or_below (name_of f (Some a)) (name_of f (Some p)) ≡ true
  above_named a zero p e = ap (λ o. is_at_or_below (name_of f (Some a)) (name_of f o)) e ∙ within_itself (name_of f (Some a))
  above_named a (suc k) p e = by (node_parent f p) refl e (above_named a k)
    where
      by : (o : Option ℕ) → node_parent f p ≡ o → ancestor f.rows k o ≡ Some a
          → ((q : ℕ) → ancestor f.rows k (Some q) ≡ Some a → is_at_or_below (name_of f (Some a)) (name_of f (Some q)) ≡ true)
          → is_at_or_below (name_of f (Some a)) (name_of f (Some p)) ≡ true
      by None s h again = absurd (cc)
      by (Some q) s h again =
          ap (is_at_or_below (name_of f (Some a))) (name_step f shallow p ∙ ap (λ o. name_of f o ++ 92 ∷ key_at f p) s)
          ∙ within_more (name_of f (Some a)) (name_of f (Some q)) (key_at f p) (again q h)

  -- so a directory of a name that is not below a node is not below the node
  pub not_into_itself : (a : ℕ) (d : Option ℕ) (old new part : List ℕ) → name_of f (Some a) ≡ old → new ≡ name_of f d ++ 92 ∷ part
      → is_below old new ≡ false → (p : ℕ) → d ≡ Some p → (k : ℕ) → ancestor f.rows k (Some p) ≡ Some a → ⊥
  not_into_itself a d old new part e whole outside p s k h =
      let inside : is_at_or_below old (name_of f d) ≡ true =
      (λ i. is_at_or_below (sym e i) (name_of f (s i))) ∙ above_named a k p h in
      false≢true (sym outside ∙ ap (is_below old) whole ∙ below_more old (name_of f d) part inside)
