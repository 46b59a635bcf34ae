-- A node that is added: components stay different, the index has it, and its row is among the rows.
use Rattle.std.proofs.Common.{◌≡◌, ◌≢◌, ◌<◌, ◌^◌, ◌==◌, ℕ, Bool, true, false, cond, refl, sym, ◌∙◌, ap, subst, arith, List, [], ◌∷◌, ◌++◌}
use Rattle.std.proofs.lemmas.Bool.Decides.{nat_tests}
use Rattle.std.specs.Prelude.{Option, Some, None, is_some, ◌&&◌}
use Rattle.std.specs.BTreeMap.{insert_entry, is_at}
use Rattle.sb_arena.specs.Forests.{HasLiveLinks, IsShallow, value_at}
use Rattle.sb_base.specs.Names.{is_component}
use Rattle.sb_names.specs.Hashes.{hash_of}
use Rattle.sb_names.specs.Keys.{key_of}
use Rattle.sb_names.specs.Nodes.{Nodes, HasNames, HasNoChild, IsChanged, IsIndexed, IsThere, name_of, rows_of}
use Rattle.sb_base.specs.Orders.{by_pair}
use Rattle.sb_names.specs.declared.trees.NameNode.{NameNode}
use Rattle.sb_names.proofs.Changes.{indexed_changed, names_changed, rows_added}
use Rattle.sb_names.proofs.IndexLemmas.{same_pair}
use Rattle.sb_names.proofs.RisingLemmas.{by_unit}

abbrev part_by : Option NameNode → List ℕ
part_by None = []
part_by (Some node) = node.part

pub own_pair : (h n : ℕ) → is_at (by_pair (h, n)) (h, n) ≡ true
own_pair h n = same_pair h n h n ∙ grind (arith, nat_tests)

pub other_pair : (h n : ℕ) (q : ℕ × ℕ) → q.1 ≢ n → is_at (by_pair (h, n)) q ≡ false
other_pair h n (g, m) ne = same_pair h n g m ∙ by (h == g) (n == m) refl
  where
    by : (s t : Bool) → t ≡ (n == m) → (s && t) ≡ false
    by true false e = refl
    by false t e = refl
    by true true e =
        let same : m ≡ n = grind (arith, nat_tests, e) in
        absurd (ne same)

-- equal pairs are at one place
pub same_place : (h n h' n' : ℕ) → h ≡ h' → n ≡ n' → is_at (by_pair (h, n)) (h', n') ≡ true
same_place h n h' n' e i = same_pair h n h' n' ∙ grind (arith, nat_tests, e, i)

-- what is in an index stays when one more is put
pub kept_on : {V : Type 0} (s : Bool) (u : V) (o : Option V) → is_some o ≡ true → is_some (cond s (Some u) o) ≡ true
kept_on true u o there = refl
kept_on false u o there = there

pub indexed_more : {V : Type 0} (f : Nodes) (index index' : ℕ × ℕ → Option V) (u : V) (hash number : ℕ) → IsIndexed index f
    → ((q : ℕ × ℕ) → index' q ≡ cond (is_at (by_pair (hash, number)) q) (Some u) (index q)) → IsIndexed index' f
indexed_more f index index' u hash number indexed updates = (λ q there. ap is_some (updates q) ∙ kept_on _ _ _ (indexed.0 q there), indexed.1)

module _ (f f' : Nodes) (a : ℕ) (w : NameNode) (d : Option ℕ) (part : List ℕ) (changed : IsChanged f f' a (Some w) d) (is_part : w.part ≡ part) where
  pub put_names : HasNames f → is_component part ≡ true → HasNoChild f d (key_of part) → HasNames f'
  put_names names component none =
      names_changed f f' a (Some w) d changed names (λ node e.
      let same : node.part ≡ part = sym (ap part_by e) ∙ is_part in
      (ap is_component same ∙ component, subst (λ us. HasNoChild f d (key_of us)) (sym same) none))

  pub put_index : {V : Type 0} (index index' : ℕ × ℕ → Option V) (u : V) (hash number : ℕ) → IsIndexed index f
      → ((q : ℕ × ℕ) → index' q ≡ cond (is_at (by_pair (hash, number)) q) (Some u) (index q))
      → hash ≡ hash_of d (key_of part) → number ≡ a → number < 2 ^ 64 → IsIndexed index' f'
  put_index index index' u hash number indexed updates hashed numbered fits =
      indexed_changed f f' a (Some w) d changed index index' indexed
      (λ q ne there. ap is_some (updates q) ∙ kept_on _ _ _ there)
      (λ some. ap is_some (updates (hash_of d (key_of w.part), a))
      ∙ ap (λ b. is_some (cond b (Some u) (index (hash_of d (key_of w.part), a))))
      (same_place hash number (hash_of d (key_of w.part)) a (hashed ∙ ap (λ us. hash_of d (key_of us)) (sym is_part)) numbered))
      (λ live. subst (λ n. n < 2 ^ 64) numbered fits)

  module _ (names : HasNames f) (names' : HasNames f') (shallow : IsShallow f.rows) (shallow' : IsShallow f'.rows) (live : HasLiveLinks f) (live' : HasLiveLinks f')
      (new : value_at f a ≡ None) where
    pub put_rows : (object : ℕ) → w.object ≡ object → IsThere f d
        → rows_of f' ≡ insert_entry by_unit (rows_of f) (name_of f d ++ 92 ∷ key_of part) object
    put_rows object is_object there =
        rows_added f f' a (Some w) d changed shallow shallow' live names names' live' new w refl there
        ∙ (λ i. insert_entry by_unit (rows_of f) (name_of f d ++ 92 ∷ key_of (is_part i)) (is_object i))
