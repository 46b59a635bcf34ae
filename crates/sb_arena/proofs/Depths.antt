-- A path to the root has no node twice, so it has no more nodes than there are numbers.
use Rattle.std.proofs.Common.{◌≡◌, ℕ, ◌+◌, ◌-◌, ◌<◌, ◌≤◌, ◌==◌, Bool, true, false, zero, suc, refl, sym, ◌∙◌, ap, arith, List, [], ◌∷◌, length}
use Rattle.std.proofs.lemmas.Bool.Decides.{nat_tests}
use Rattle.std.proofs.lemmas.Bool.{false≢true}
use Rattle.std.proofs.lemmas.List.{get_or_past}
use Rattle.std.specs.Prelude.{Option, None, Some, ◌||◌, nat_le}
use Rattle.sb_arena.specs.Forests.{Row, bare_row, row_at, has, Single, ancestor, IsRooted, IsShallow}
use Rattle.sb_arena.proofs.ChainLemmas.{Below, few}
use Rattle.sb_arena.proofs.LinkLaws.{same_of}

module _ (rows : List Row) where
  -- this many steps up, and then that many more
  ancestor_more : (j k : ℕ) (o : Option ℕ) → ancestor rows (j + k) o ≡ ancestor rows k (ancestor rows j o)
  ancestor_more zero k None = refl
  ancestor_more zero k (Some n) =
      let e : 0 + k ≡ k = omega arith in
      ap (λ x. ancestor rows x (Some n)) e
  ancestor_more (suc j) k None = refl
  ancestor_more (suc j) k (Some n) =
      let e : suc j + k ≡ suc (j + k) = omega arith in
      ap (λ x. ancestor rows x (Some n)) e ∙ ancestor_more j k (row_at rows n).parent

  -- above the root there is nothing
  above_none : (j k : ℕ) (o : Option ℕ) → ancestor rows j o ≡ None → ancestor rows (j + k) o ≡ None
  above_none j k o h = ancestor_more j k o ∙ ap (λ x. ancestor rows k x) h

  -- the path of a node that is its own ancestor never ends
  never_ends : (d n : ℕ) → ancestor rows (suc d) (Some n) ≡ Some n → (bound k : ℕ) → k < bound → ancestor rows k (Some n) ≡ None → ⊥
  never_ends d n loops zero k l h = absurd (omega arith)
  never_ends d n loops (suc bound) k l h = by (nat_le (suc d) k) refl (never_ends d n loops bound (k - suc d))
    where
      by : (b : Bool) → b ≡ nat_le (suc d) k → (k - suc d < bound → ancestor rows (k - suc d) (Some n) ≡ None → ⊥) → ⊥
      by true e f =
          let m : suc d ≤ k = grind (arith, nat_tests, e) in
          let parts : suc d + (k - suc d) ≡ k = omega arith in
          let again : ancestor rows (k - suc d) (Some n) ≡ None =
          sym (ap (λ x. ancestor rows (k - suc d) x) loops) ∙ sym (ancestor_more (suc d) (k - suc d) (Some n))
          ∙ ap (λ x. ancestor rows x (Some n)) parts ∙ h in
          f (omega arith) again
      by false e f =
          let m : k < suc d = grind (arith, nat_tests, e) in
          let parts : k + (suc d - k) ≡ suc d = omega arith in
          let none : None ≡ Some n = sym (above_none k (suc d - k) (Some n) h) ∙ ap (λ x. ancestor rows x (Some n)) parts ∙ loops in
          absurd (cc)

  -- the first this many nodes on the path upwards
  abbrev path : ℕ → Option ℕ → List ℕ
  path k None = []
  path zero (Some n) = []
  path (suc k) (Some n) = n ∷ path k (row_at rows n).parent

  path_length : (k : ℕ) (o : Option ℕ) (a : ℕ) → ancestor rows k o ≡ Some a → length (path k o) ≡ k
  path_length zero None a h = absurd (cc)
  path_length (suc k) None a h = absurd (cc)
  path_length zero (Some n) a h = refl
  path_length (suc k) (Some n) a h = ap suc (path_length k (row_at rows n).parent a h)

  -- each node on it is an ancestor
  on_path : (x k : ℕ) (o : Option ℕ) → has x (path k o) ≡ true → (j : ℕ) × (ancestor rows j o ≡ Some x)
  on_path x zero None h = absurd (false≢true h)
  on_path x (suc k) None h = absurd (false≢true h)
  on_path x zero (Some n) h = absurd (false≢true h)
  on_path x (suc k) (Some n) h = by (n == x) refl h (on_path x k (row_at rows n).parent)
    where
      by : (b : Bool) → b ≡ (n == x) → (b || has x (path k (row_at rows n).parent)) ≡ true
          → (has x (path k (row_at rows n).parent) ≡ true → (j : ℕ) × (ancestor rows j (row_at rows n).parent ≡ Some x))
          → (j : ℕ) × (ancestor rows j (Some n) ≡ Some x)
      by true e t f = (0, ap (λ k. Some k) (same_of n x e))
      by false e t f = (suc (f t).0, (f t).1)

  path_single : IsRooted rows → (k : ℕ) (o : Option ℕ) → Single (path k o)
  path_single rooted zero None = tt
  path_single rooted (suc k) None = tt
  path_single rooted zero (Some n) = tt
  path_single rooted (suc k) (Some n) = (by (has n (path k (row_at rows n).parent)) refl, path_single rooted k (row_at rows n).parent)
    where
      by : (b : Bool) → has n (path k (row_at rows n).parent) ≡ b → b ≡ false
      by false e = refl
      by true e =
          let met = on_path n k (row_at rows n).parent e in
          absurd (never_ends met.0 n met.1 (suc (rooted n).0) (rooted n).0 (omega arith) (rooted n).1)

  -- a node with a parent has a row
  in_rows : (n : ℕ) (o : Option ℕ) (k a : ℕ) → (row_at rows n).parent ≡ o → ancestor rows k o ≡ Some a → n < length rows
  in_rows n None zero a e h = absurd (cc)
  in_rows n None (suc k) a e h = absurd (cc)
  in_rows n (Some p) k a e h = by (nat_le (length rows) n) refl
    where
      by : (b : Bool) → b ≡ nat_le (length rows) n → n < length rows
      by true t =
          let s : length rows ≤ n = grind (arith, nat_tests, t) in
          let none : None ≡ Some p = sym (ap (λ r. r.parent) (get_or_past rows n bare_row s)) ∙ e in
          absurd (cc)
      by false t = grind (arith, nat_tests, t)

  path_below : (k : ℕ) (o : Option ℕ) (a : ℕ) → ancestor rows k o ≡ Some a → Below (length rows) (path k o)
  path_below zero None a h = tt
  path_below (suc k) None a h = tt
  path_below zero (Some n) a h = tt
  path_below (suc k) (Some n) a h = (in_rows n (row_at rows n).parent k a refl h, path_below k (row_at rows n).parent a h)

  pub shallow : IsRooted rows → IsShallow rows
  shallow rooted n = by (ancestor rows (suc (length rows)) (Some n)) refl
    where
      by : (o : Option ℕ) → ancestor rows (suc (length rows)) (Some n) ≡ o → o ≡ None
      by None e = refl
      by (Some a) e =
          let k = suc (length rows) in
          let most = few (length rows) (path k (Some n)) (path_single rooted k (Some n)) (path_below k (Some n) a e) in
          let many = path_length k (Some n) a e in
          absurd (omega (arith, most, many))
