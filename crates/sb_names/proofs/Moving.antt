-- A node that gets another component and directory: the index has it under its new hash, and each row has its new name.
use Rattle.std.proofs.Common.{◌≡◌, ◌≢◌, ◌==◌, ℕ, Bool, true, false, cond, refl, sym, subst, ◌∙◌, ap, arith, List, ◌∷◌, ◌++◌, map}
use Rattle.std.proofs.lemmas.Bool.{false≢true}
use Rattle.std.proofs.lemmas.Bool.Decides.{nat_tests}
use Rattle.std.specs.Prelude.{Option, Some, None, is_some, not, ◌&&◌, ◌||◌}
use Rattle.std.specs.BTreeMap.{BTreeMap, IsUnchanged, get, is_at}
use Rattle.std.specs.Map.{lookup}
use Rattle.sb_arena.specs.Forests.{HasLiveLinks, IsLive, IsShallow, ancestor, value_at}
use Rattle.sb_names.specs.Hashes.{hash_of}
use Rattle.sb_names.specs.Keys.{key_of}
use Rattle.sb_names.specs.Nodes.{Nodes, HasNames, IsApart, IsChanged, IsIndexed, KeepsRows, MovesEntry, has_entry, hash_at, key_at, key_by, name_of, rows_of}
use Rattle.sb_base.specs.Orders.{by_pair}
use Rattle.sb_names.specs.Renames.{collected, renamed_key}
use Rattle.sb_names.specs.declared.trees.NameNode.{NameNode}
use Rattle.sb_names.proofs.Changes.{indexed_changed, parent_here, value_here}
use Rattle.sb_names.proofs.IndexLemmas.{same_pair}
use Rattle.sb_names.proofs.PutLemmas.{other_pair, own_pair}
use Rattle.sb_names.proofs.RenameLemmas.{live_after, name_after, rows_renamed}

-- a node that is put under a hash, and taken out under its old one if that is another
module _ {V : Type 0} (before after : List ((ℕ × ℕ) × V)) (u : V) (hash node old : ℕ)
    (updates : (q : ℕ × ℕ) → lookup (is_at (by_pair q)) after ≡ cond (is_at (by_pair (hash, node)) q) (Some u) (lookup (is_at (by_pair q)) before)) where
  pub stays_put : old ≡ hash → MovesEntry before after node old hash
  stays_put same q =
      ap is_some (updates q)
      ∙ by (is_at (by_pair (hash, node)) q) (is_at (by_pair (old, node)) q) (ap (λ h. is_at (by_pair (h, node)) q) same) (lookup (is_at (by_pair q)) before)
    where
      by : (new old : Bool) → old ≡ new → (o : Option V) → is_some (cond new (Some u) o) ≡ (new || (not old && is_some o))
      by true old e o = refl
      by false false e o = refl
      by false true e o = absurd (false≢true (sym e))

  pub is_moved : old ≢ hash → (last : List ((ℕ × ℕ) × V))
      → ((q : ℕ × ℕ) → lookup (is_at (by_pair q)) last ≡ cond (is_at (by_pair (old, node)) q) None (lookup (is_at (by_pair q)) after))
      → MovesEntry before last node old hash
  is_moved apart last removes q =
      ap is_some (removes q ∙ ap (cond (is_at (by_pair (old, node)) q) None) (updates q))
      ∙ by (is_at (by_pair (hash, node)) q) (is_at (by_pair (old, node)) q) (not_both q.0 q.1) (lookup (is_at (by_pair q)) before)
    where
      not_both : (h n : ℕ) → is_at (by_pair (hash, node)) (h, n) ≡ true → is_at (by_pair (old, node)) (h, n) ≡ true → ⊥
      not_both h n here there =
          let one : hash ≡ h = grind (arith, nat_tests, same_pair hash node h n, here) in
          let two : old ≡ h = grind (arith, nat_tests, same_pair old node h n, there) in
          apart (two ∙ sym one)

      by : (new old : Bool) → (new ≡ true → old ≡ true → ⊥) → (o : Option V) → is_some (cond old None (cond new (Some u) o)) ≡ (new || (not old && is_some o))
      by true true both o = absurd (both refl refl)
      by true false both o = refl
      by false true both o = refl
      by false false both o = refl

-- an entry that is moved is there, and those of other nodes stay
module _ {V : Type 0} (before after : List ((ℕ × ℕ) × V)) (node old hash : ℕ) (moves : MovesEntry before after node old hash) where
  moved_here : has_entry after (hash, node) ≡ true
  moved_here = moves (hash, node) ∙ ap (λ b. b || (not (is_at (by_pair (old, node)) (hash, node)) && has_entry before (hash, node))) (own_pair hash node)

  moved_others : (q : ℕ × ℕ) → q.1 ≢ node → has_entry before q ≡ true → has_entry after q ≡ true
  moved_others q ne there = moves q ∙ rw (other_pair hash node q ne, other_pair old node q ne) there

-- an index that is as it was serves as before
pub same_index : {X : Type 0} (f : Nodes) (m n : BTreeMap (ℕ × ℕ) X) → IsUnchanged m n → IsIndexed (get by_pair m) f → IsIndexed (get by_pair n) f
same_index f m n same indexed = (λ q there. ap (λ es. is_some (lookup (is_at (by_pair q)) es)) same ∙ indexed.0 q there, indexed.1)

-- a directory is not below a node if no path to the root says so
pub apart_on_paths : (f : Nodes) (a : ℕ) (d : Option ℕ) → IsApart f a d
    → (p : ℕ) → d ≡ Some p → (j : ℕ) → ancestor f.rows j (Some p) ≡ Some a → ⊥
apart_on_paths f a None apart p e j h = false≢true (ap is_some e)
apart_on_paths f a (Some q) apart p e j h = apart (j, ap (ancestor f.rows j) e ∙ h)

pub paths_apart : (f : Nodes) (a : ℕ) (d : Option ℕ)
    → ((p : ℕ) → d ≡ Some p → (j : ℕ) → ancestor f.rows j (Some p) ≡ Some a → ⊥) → IsApart f a d
paths_apart f a None apart = tt
paths_apart f a (Some p) apart = λ above. apart p refl above.0 above.1

abbrev object_by : ℕ → Option NameNode → ℕ
object_by d None = d
object_by d (Some w) = w.object

module _ (f f' : Nodes) (a : ℕ) (w : NameNode) (d : Option ℕ) (part : List ℕ) (changed : IsChanged f f' a (Some w) d) (is_part : w.part ≡ part)
    (live : IsLive f a) where
  pub move_index : {V : Type 0} (m n : BTreeMap (ℕ × ℕ) V) (old hash : ℕ) → IsIndexed (get by_pair m) f → hash ≡ hash_of d (key_of part)
      → MovesEntry m.entries n.entries a old hash → IsIndexed (get by_pair n) f'
  move_index m n old hash indexed hashed moves =
      indexed_changed f f' a (Some w) d changed (get by_pair m) (get by_pair n) indexed (moved_others m.entries n.entries a old hash moves)
      (λ some. subst (λ h. has_entry n.entries (h, a) ≡ true) (hashed ∙ ap (λ us. hash_of d (key_of us)) (sym is_part))
      (moved_here m.entries n.entries a old hash moves))
      (λ now. indexed.1 a live)

  -- and its new hash is that of its new directory and component
  pub hash_after : hash_at f' a ≡ hash_of d (key_of part)
  hash_after =
      ap (λ o. hash_of o (key_at f' a)) (parent_here f f' a (Some w) d changed)
      ∙ ap (λ v. hash_of d (key_by v)) (value_here f f' a (Some w) d changed)
      ∙ ap (λ us. hash_of d (key_of us)) is_part

  module _ (names : HasNames f) (names' : HasNames f') (shallow : IsShallow f.rows) (shallow' : IsShallow f'.rows)
      (live_links : HasLiveLinks f) (live_links' : HasLiveLinks f') (apart : IsApart f a d) where
    pub move_rows : (old : NameNode) → value_at f a ≡ Some old → w.object ≡ old.object
        → rows_of f' ≡ collected (map (λ row. (renamed_key (name_of f (Some a)) (name_of f d ++ 92 ∷ key_of part) row.0, row.1)) (rows_of f))
    move_rows old is_old same =
        rows_renamed f f' a w d changed shallow shallow' live_links live_links' names names' live (apart_on_paths f a d apart)
        (λ v e. ap (object_by 0) (sym e ∙ is_old) ∙ sym same)
        ∙ (λ i. collected (map (λ row. (renamed_key (name_of f (Some a)) (name_of f d ++ 92 ∷ key_of (is_part i)) row.0, row.1)) (rows_of f)))

    pub move_keeps : KeepsRows f f' (name_of f (Some a)) (name_of f d ++ 92 ∷ key_of part)
    move_keeps n there = (
      live_after f f' a w d changed shallow shallow' live_links live_links' names names' live (apart_on_paths f a d apart) n there,
      name_after f f' a w d changed shallow shallow' live_links live_links' names names' live (apart_on_paths f a d apart) n there
          ∙ (λ i. renamed_key (name_of f (Some a)) (name_of f d ++ 92 ∷ key_of (is_part i)) (name_of f (Some n))),
    )
