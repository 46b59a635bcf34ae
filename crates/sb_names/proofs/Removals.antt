-- What the removal of a node does to the rows, and when names are below one.
use Rattle.std.proofs.Common.{◌≡◌, ℕ, cond, refl, sym, ◌∙◌, ap, subst, zero, suc, List, length, if◌then◌else◌}
use Rattle.std.proofs.lemmas.Map.{lookup-remove_entry}
use Rattle.std.proofs.lemmas.Map.Keys.{IsDistinct-from_sorted}
use Rattle.std.specs.Prelude.{Option, Some, None, is_some}
use Rattle.std.specs.Cmp.Lexicographic.{nat_list_eq_equiv}
use Rattle.std.specs.List.{AllByRecursion, IsDistinct}
use Rattle.std.specs.Map.{keys_of, lookup, remove_entry}
use Rattle.sb_arena.specs.Forests.{IsLive, value_at, IsShallow, HasLiveLinks}
use Rattle.sb_names.specs.Maps.{Rows, Rises, is_key}
use Rattle.sb_names.specs.Nodes.{Nodes, HasNames, name_of, rows_below, rows_of, with_row}
use Rattle.sb_names.specs.declared.trees.NameNode.{NameNode}
use Rattle.sb_names.proofs.MapLaws.{is_key_eq}
use Rattle.sb_names.proofs.RisingLemmas.{by_unit, key_test, all_put}

-- without the row of a key, that key is not found, and every other as before
pub is_out : {V : Type 0} (key other : List ℕ) (rows : Rows V) → Rises rows
    → lookup (is_key other) (remove_entry (is_key key) rows) ≡ (if is_key other key then None else lookup (is_key other) rows)
is_out key other rows rises =
    let apart = subst (λ test. IsDistinct test (keys_of rows)) (λ i x y. sym (key_test x y) i) (IsDistinct-from_sorted by_unit (keys_of rows) rises) in
    lookup-remove_entry nat_list_eq_equiv (is_key key) (λ x y h. ap (λ k. is_key k y) (is_key_eq key x h)) other rows apart
    ∙ ap (λ b. cond b None (lookup (is_key other) rows)) (nat_list_eq_equiv.symm key other)

module _ (f : Nodes) (names : HasNames f) (shallow : IsShallow f.rows) (live_links : HasLiveLinks f) where
  -- what holds of the names of all nodes holds of the keys of all rows
  all_named : (P : List ℕ → Type 0) → ((n : ℕ) → IsLive f n → P (name_of f (Some n))) → (k : ℕ) → AllByRecursion P (keys_of (rows_below f k))
  all_named P h zero = tt
  all_named P h (suc k) = by (value_at f k) refl (all_named P h k)
    where
      by : (o : Option NameNode) → value_at f k ≡ o → AllByRecursion P (keys_of (rows_below f k))
          → AllByRecursion P (keys_of (with_row o (name_of f (Some k)) (rows_below f k)))
      by None e i = i
      by (Some w) e i = all_put P (name_of f (Some k)) w.object (rows_below f k) i (h k (ap is_some e))

  pub all_rows_named : (P : List ℕ → Type 0) → ((n : ℕ) → IsLive f n → P (name_of f (Some n))) → AllByRecursion P (keys_of (rows_of f))
  unfolding rows_of
  all_rows_named P h = all_named P h (length f.values)
