-- A node that is in the index is met among those with its hash.
use Rattle.std.proofs.Common.{◌≡◌, ◌<◌, ◌-◌, ◌^◌, ℕ, Bool, true, false, cond, refl, sym, ◌∙◌, ap, arith, ◌==◌, nat_le, if◌then◌else◌, List, [], ◌∷◌}
use Rattle.std.proofs.lemmas.Bool.{false≢true}
use Rattle.std.proofs.lemmas.Bool.Decides.{nat_tests}
use Rattle.std.specs.Prelude.{Option, None, Some, is_some, ◌&&◌}
use Rattle.std.specs.BTreeMap.{BTreeMap, get, is_at}
use Rattle.std.specs.BTreeMap.Range.{range_contains, entries_between}
use Rattle.std.specs.declared.ops.Bound.TheVariants.{Included}
use Rattle.std.specs.List.{filter, find}
use Rattle.std.specs.Map.{lookup}
use Rattle.sb_arena.specs.Forests.{IsLive, parent_of as node_parent}
use Rattle.sb_names.specs.Hashes.{hash_of}
use Rattle.sb_names.specs.Maps.{is_key}
use Rattle.sb_names.specs.Nodes.{Nodes, HasNoChild, IsChild, IsIndexed, is_child, is_same_node, key_at}
use Rattle.sb_base.specs.Orders.{by_pair}
use Rattle.sb_names.proofs.MapLaws.{own_test}

-- two pairs are at one place of the order exactly if they are equal
pub same_pair : (a b c d : ℕ) → is_at (by_pair (a, b)) (c, d) ≡ (a == c && b == d)
same_pair a b c d = grind (arith, nat_tests)

-- the pairs with this hash, and numbers of 64 bits
pub in_range : (first low high : ℕ × ℕ) (key : ℕ × ℕ) → low ≡ first → high ≡ (first.0, 2 ^ 64 - 1) → first.1 ≡ 0
    → range_contains by_pair (Included low) (Included high) key ≡ (key.0 == first.0 && nat_le key.1 (2 ^ 64 - 1))
in_range first low high key l h z = rw (l, h, z) (grind (arith, nat_tests))

pub none_passes : {X : Type 0} (p : X → Bool) (xs : List X) → xs ≡ [] → find p xs ≡ None
none_passes p xs e = ap (find p) e

first_passes : {X : Type 0} (p : X → Bool) (x : X) (xs : List X) → p x ≡ true → find p (x ∷ xs) ≡ Some x
first_passes p x xs h = rw h refl

-- if none passes, none of the later ones does
rest_fails : {X : Type 0} (p : X → Bool) (x : X) (xs : List X) → find p (x ∷ xs) ≡ None → find p xs ≡ None
rest_fails p x xs h = by (p x) h
  where
    by : (b : Bool) → (if b then Some x else find p xs) ≡ None → find p xs ≡ None
    by true h = absurd (cc)
    by false h = h

abbrev pub with_hash : ℕ → ℕ × ℕ → Bool
with_hash hash key = range_contains by_pair (Included (hash, 0)) (Included (hash, 2 ^ 64 - 1)) key

module _ {X : Type 0} (hash n : ℕ) (fits : n < 2 ^ 64) (p : ℕ → Bool) (passes : p n ≡ true) where
  abbrev row_passes : (ℕ × ℕ) × X → Bool
  row_passes row = p row.0.1

  abbrev kept : List ((ℕ × ℕ) × X) → List ((ℕ × ℕ) × X)
  kept es = filter (λ e. with_hash hash e.0) es

  pub met : (es : List ((ℕ × ℕ) × X)) → is_some (lookup (is_at (by_pair (hash, n))) es) ≡ true
      → find row_passes (filter (λ e. with_hash hash e.0) es) ≡ None → ⊥
  met [] there none = false≢true there
  met (((h, m), x) ∷ es) there none = by (is_at (by_pair (hash, n)) (h, m)) (same_pair hash n h m) there (with_hash hash (h, m)) refl none (met es)
    where
      by : (s : Bool) → s ≡ (hash == h && n == m) → is_some (cond s (Some x) (lookup (is_at (by_pair (hash, n))) es)) ≡ true
          → (r : Bool) → with_hash hash (h, m) ≡ r → find row_passes (if r then ((h, m), x) ∷ kept es else kept es) ≡ None
          → (is_some (lookup (is_at (by_pair (hash, n))) es) ≡ true → find row_passes (kept es) ≡ None → ⊥) → ⊥
      by true t there true k none again =
          let same : n ≡ m = grind (arith, nat_tests, t) in
          let wrong : None ≡ Some ((h, m), x) = sym none ∙ first_passes row_passes ((h, m), x) (kept es) (ap p (sym same) ∙ passes) in
          absurd (cc)
      by true t there false k none again =
          let inside : with_hash hash (h, m) ≡ true = in_range (hash, 0) (hash, 0) (hash, 2 ^ 64 - 1) (h, m) refl refl refl ∙ grind (arith, nat_tests, t, fits) in
          false≢true (sym k ∙ inside)
      by false t there true k none again = again there (rest_fails row_passes ((h, m), x) (kept es) none)
      by false t there false k none again = again there none

all_three : (a b c : Bool) → a ≡ true → b ≡ true → c ≡ true → (a && (b && c)) ≡ true
all_three true true true ea eb ec = refl
all_three false b c ea eb ec = absurd (false≢true ea)
all_three true false c ea eb ec = absurd (false≢true eb)
all_three true true false ea eb ec = absurd (false≢true ec)

own_node : (o : Option ℕ) → is_same_node o o ≡ true
own_node None = refl
own_node (Some n) = grind (arith, nat_tests)

-- the test passes for the child
pub child_passes : (f : Nodes) (d : Option ℕ) (key : List ℕ) (n : ℕ) → IsChild f d key n → is_child f d key n ≡ true
child_passes f d key n child =
    all_three _ _ _ child.0 (ap (λ o. is_same_node o d) child.1 ∙ own_node d) (ap (λ us. is_key us key) child.2 ∙ own_test key)

-- a live node is in the index
pub entry_there : {V : Type 0} (f : Nodes) (index : ℕ × ℕ → Option V) → IsIndexed index f → (n : ℕ) → IsLive f n
    → is_some (index (hash_of (node_parent f n) (key_at f n), n)) ≡ true
entry_there f index indexed n live =
    let hash : ℕ = hash_of (node_parent f n) (key_at f n) in
    let same : (hash == hash) ≡ true = grind (arith, nat_tests) in
    indexed.0 (hash, n) (λ i. live i && same i)

-- if no node with the hash is the child, no node is
pub no_child : {X : Type 0} (f : Nodes) (m : BTreeMap (ℕ × ℕ) X) (d : Option ℕ) (key : List ℕ) (hash : ℕ) (rest range : List ((ℕ × ℕ) × X))
    → IsIndexed (get by_pair m) f → hash ≡ hash_of d key
    → range ≡ entries_between by_pair (Included (hash, 0)) (Included (hash, 2 ^ 64 - 1)) m.entries
    → find (λ row. is_child f d key row.0.1) rest ≡ find (λ row. is_child f d key row.0.1) range
    → rest ≡ [] → HasNoChild f d key
no_child f m d key hash rest range indexed hashed between same none n child =
    let there : is_some (get by_pair m (hash, n)) ≡ true =
    (λ i. is_some (get by_pair m ((hashed ∙ (λ k. hash_of (sym child.1 k) (sym child.2 k))) i, n))) ∙ entry_there f (get by_pair m) indexed n child.0 in
    met hash n (indexed.1 n child.0) (is_child f d key) (child_passes f d key n child) m.entries there
    (ap (find (λ row. is_child f d key row.0.1)) (sym between) ∙ sym same ∙ none_passes (λ row. is_child f d key row.0.1) rest none)
