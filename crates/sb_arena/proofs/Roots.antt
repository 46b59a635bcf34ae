-- Each node is a number of steps below a root.
use Rattle.std.proofs.Common.{◌≡◌, ◌≢◌, ℕ, ◌<◌, ◌==◌, Bool, true, false, cond, zero, suc, refl, sym, ◌∙◌, ap, List, [], ◌∷◌, ◌++◌, length, set, length-set}
use Rattle.std.specs.Prelude.{Option, None, Some}
use Rattle.sb_arena.specs.Forests.{Row, bare_row, row_at, rows_with, rows_without, without, ancestor, IsRooted}
use Rattle.sb_arena.proofs.LinkLaws.{same_of, other_of, is_same, is_other, at_set}
use Rattle.sb_arena.proofs.Readers.{same_past}

-- rows that differ in the parent of one node at most
module _ (rows rows' : List Row) (c : ℕ) (others : (n : ℕ) → n ≢ c → (row_at rows' n).parent ≡ (row_at rows n).parent) where
  pub along : (k : ℕ) (o : Option ℕ) → ((j : ℕ) → ancestor rows j o ≢ Some c) → ancestor rows' k o ≡ ancestor rows k o
  along k None ne = refl
  along zero (Some n) ne = refl
  along (suc k) (Some n) ne =
      ap (λ o. ancestor rows' k o) (others n (λ e. ne 0 (ap (λ x. Some x) e))) ∙ along k (row_at rows n).parent (λ j. ne (suc j))

  pub reached : (j : ℕ) × (ancestor rows' j (Some c) ≡ None) → (k : ℕ) (o : Option ℕ) → ancestor rows k o ≡ None → (j : ℕ) × (ancestor rows' j o ≡ None)
  reached at_c k None h = (0, refl)
  reached at_c zero (Some n) h = absurd (cc)
  reached at_c (suc k) (Some n) h = by (n == c) refl (reached at_c k (row_at rows n).parent h)
    where
      by : (b : Bool) → b ≡ (n == c) → (j : ℕ) × (ancestor rows' j (row_at rows n).parent ≡ None) → (j : ℕ) × (ancestor rows' j (Some n) ≡ None)
      by true e r = (at_c.0, ap (λ x. ancestor rows' at_c.0 (Some x)) (same_of n c e) ∙ at_c.1)
      by false e r = (suc r.0, ap (λ o. ancestor rows' r.0 o) (others n (other_of n c e)) ∙ r.1)

module _ (rows : List Row) (c p : ℕ) (in_c : c < length rows) (in_p : p < length rows) (o : Option ℕ) (ks : List ℕ) where
  abbrev first_row : Row
  first_row = record (row_at rows c) { parent = o }

  abbrev rows1 : List Row
  rows1 = set rows c first_row

  abbrev second_row : Row
  second_row = record (row_at rows1 p) { children = ks }

  abbrev rows2 : List Row
  rows2 = set rows1 p second_row

  parent1 : (n : ℕ) → (row_at rows1 n).parent ≡ cond (n == c) o (row_at rows n).parent
  parent1 n = ap (λ r. r.parent) (at_set bare_row rows c first_row n in_c) ∙ by (n == c)
    where
      by : (b : Bool) → (cond b first_row (row_at rows n)).parent ≡ cond b o (row_at rows n).parent
      by true = refl
      by false = refl

  in_p1 : p < length rows1
  in_p1 = rw (length-set rows c first_row) in_p

  parent2 : (n : ℕ) → (row_at rows2 n).parent ≡ (row_at rows1 n).parent
  parent2 n = ap (λ r. r.parent) (at_set bare_row rows1 p second_row n in_p1) ∙ by (n == p) refl
    where
      by : (b : Bool) → b ≡ (n == p) → (cond b second_row (row_at rows1 n)).parent ≡ (row_at rows1 n).parent
      by true e = ap (λ k. (row_at rows1 k).parent) (sym (same_of n p e))
      by false e = refl

  pub parent_others : (n : ℕ) → n ≢ c → (row_at rows2 n).parent ≡ (row_at rows n).parent
  parent_others n ne = parent2 n ∙ parent1 n ∙ ap (λ t. cond t o (row_at rows n).parent) (is_other n c ne)

  pub parent_one : (row_at rows2 c).parent ≡ o
  parent_one = parent2 c ∙ parent1 c ∙ ap (λ t. cond t o (row_at rows c).parent) (is_same c)

pub rooted_none : IsRooted []
rooted_none n = (1, refl)

module _ (rows : List Row) (rooted : IsRooted rows) where
  pub rooted_hung : (c p : ℕ) → c < length rows → p < length rows → ((k : ℕ) → ancestor rows k (Some p) ≢ Some c) → IsRooted (rows_with rows c p)
  rooted_hung c p in_c in_p apart n =
      let others = parent_others rows c p in_c in_p (Some p) ((row_at rows p).children ++ c ∷ []) in
      let top = rooted p in
      let at_p : ancestor (rows_with rows c p) top.0 (Some p) ≡ None = along rows (rows_with rows c p) c others top.0 (Some p) apart ∙ top.1 in
      let at_c : ancestor (rows_with rows c p) (suc top.0) (Some c) ≡ None =
      ap (λ o. ancestor (rows_with rows c p) top.0 o) (parent_one rows c p in_c in_p (Some p) ((row_at rows p).children ++ c ∷ [])) ∙ at_p in
      reached rows (rows_with rows c p) c others (suc top.0, at_c) (rooted n).0 (Some n) (rooted n).1

  pub rooted_unhung : (c p : ℕ) → c < length rows → p < length rows → IsRooted (rows_without rows c p)
  rooted_unhung c p in_c in_p n =
      let ks = without c (row_at rows p).children in
      let at_c : ancestor (rows_without rows c p) 1 (Some c) ≡ None = ap (λ o. ancestor (rows_without rows c p) 0 o) (parent_one rows c p in_c in_p None ks) in
      reached rows (rows_without rows c p) c (parent_others rows c p in_c in_p None ks) (1, at_c) (rooted n).0 (Some n) (rooted n).1

  pub rooted_added : IsRooted (rows ++ bare_row ∷ [])
  rooted_added n = ((rooted n).0, same (rooted n).0 (Some n) ∙ (rooted n).1)
    where
      same : (k : ℕ) (o : Option ℕ) → ancestor (rows ++ bare_row ∷ []) k o ≡ ancestor rows k o
      same k None = refl
      same zero (Some n) = refl
      same (suc k) (Some n) = ap (λ r. ancestor (rows ++ bare_row ∷ []) k r.parent) (same_past bare_row rows n) ∙ same k (row_at rows n).parent
