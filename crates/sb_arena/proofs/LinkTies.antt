-- Links agree after a node is linked last, and the rows are those with one child more.
use Rattle.std.proofs.Common.{◌≡◌, ◌≢◌, ℕ, ◌<◌, ◌≤◌, ◌==◌, Bool, true, false, cond, refl, sym, ◌∙◌, ap, subst, arith, List, [], ◌∷◌, ◌++◌, length, set, length-set}
use Rattle.std.proofs.lemmas.Bool.Decides.{nat_tests}
use Rattle.std.proofs.lemmas.Bool.{false≢true}
use Rattle.std.proofs.lemmas.List.{get_or-map, ext_get_or, get_or_past, length-map}
use Rattle.std.specs.Prelude.{Option, None, Some, ◌||◌, nat_le}
use Rattle.sb_arena.specs.declared.links.Link.{Link}
use Rattle.sb_arena.specs.Forests.{Row, bare_row, row_at, rows_with, has}
use Rattle.sb_arena.specs.Links.{no_link, at, linked, kids, row_of, rows_of, Hangs, IsTied}
use Rattle.sb_arena.proofs.HangLemmas.{fill, last_hangs, hung_last, hung_others}
use Rattle.sb_arena.proofs.ChainLemmas.{settled}
use Rattle.sb_arena.proofs.LinkLaws.{same_of, other_of, is_same, is_other, at_set, is_it, is_none, long, parents, prevs, lasts, nexts, firsts}

-- what hangs somewhere is there
pub present : (links : List Link) (x n : ℕ) → (at links x).parent ≡ Some n → x < length links
present links x n h = by (nat_le (length links) x) refl
  where
    by : (b : Bool) → b ≡ nat_le (length links) x → x < length links
    by true e =
        let s : length links ≤ x = grind (arith, nat_tests, e) in
        let w : None ≡ Some n = sym (ap (λ u. u.parent) (get_or_past links x no_link s)) ∙ h in
        absurd (cc)
    by false e = grind (arith, nat_tests, e)

-- the children are those that are linked
pub kids_are : (links : List Link) (n : ℕ) (xs : List ℕ) → Hangs (at links) n None (at links n).first xs (at links n).last → kids links n ≡ xs
kids_are links n xs h = settled (at links) n (length links) (λ x e. present links x n e) (at links n).first xs (at links n).last h

pub same_row : {a b : Row} → a.parent ≡ b.parent → a.children ≡ b.children → a ≡ b
same_row e f = λ i. record { parent = e i; children = f i }

pub row_read : (links : List Link) (n : ℕ) → n < length links → row_at (rows_of links) n ≡ record { parent = (at links n).parent; children = kids links n }
row_read links n s = get_or-map (row_of links) links n no_link bare_row s

some_last : (g : ℕ → Link) (n : ℕ) (b here : Option ℕ) (y : ℕ) (ys : List ℕ) (l : Option ℕ) → Hangs g n b here (y ∷ ys) l → is_none l ≡ false
some_last g n b here y [] l h = ap is_none h.3.1
some_last g n b here y (x ∷ xs) l h = some_last g n (Some y) (g y).next x xs l h.3

first_filled : (g : ℕ → Link) (n c : ℕ) (here : Option ℕ) (ys : List ℕ) (l : Option ℕ) → Hangs g n None here ys l → cond (is_none l) (Some c) here ≡ fill c here
first_filled g n c here [] l h = ap (λ o. cond (is_none o) (Some c) here) h.1 ∙ sym (ap (fill c) h.0)
first_filled g n c here (y ∷ ys) l h =
    ap (λ t. cond t (Some c) here) (some_last g n None here y ys l h) ∙ h.0 ∙ sym (ap (fill c) h.0)

pub has_last : (c : ℕ) (xs : List ℕ) → has c (xs ++ c ∷ []) ≡ true
has_last c [] = rw (is_same c) refl
has_last c (x ∷ xs) = by (x == c) (has_last c xs)
  where
    by : (b : Bool) → has c (xs ++ c ∷ []) ≡ true → (b || has c (xs ++ c ∷ [])) ≡ true
    by true h = refl
    by false h = h

pub has_still : (x c : ℕ) (xs : List ℕ) → has x xs ≡ true → has x (xs ++ c ∷ []) ≡ true
has_still x c [] h = absurd (false≢true h)
has_still x c (y ∷ ys) h = by (y == x) h (has_still x c ys)
  where
    by : (b : Bool) → (b || has x ys) ≡ true → (has x ys ≡ true → has x (ys ++ c ∷ []) ≡ true) → (b || has x (ys ++ c ∷ [])) ≡ true
    by true h f = refl
    by false h f = f h

module _ (links : List Link) (c p : ℕ) (in_c : c < length links) (in_p : p < length links) (tied : IsTied links) (unlinked : (at links c).parent ≡ None) where
  abbrev l : Option ℕ
  l = (at links p).last

  abbrev g' : ℕ → Link
  g' = at (linked links c p)

  last_parent : (b : ℕ) → l ≡ Some b → (at links b).parent ≡ Some p
  last_parent b e = last_hangs (at links) p (at links p).first (kids links p) l b (tied.hangs p) e

  pub in_l : (b : ℕ) → l ≡ Some b → b < length links
  in_l b e = present links b p (last_parent b e)

  not_last : is_it l c ≡ false
  not_last = by l refl
    where
      by : (o : Option ℕ) → o ≡ l → is_it o c ≡ false
      by None e = refl
      by (Some b) e = is_other c b (λ s.
          let w : None ≡ Some p = sym unlinked ∙ ap (λ k. (at links k).parent) s ∙ last_parent b (sym e) in
          absurd (cc))

  it_is : (o : Option ℕ) (x : ℕ) → o ≡ Some x → is_it o x ≡ true
  it_is None x e = absurd (cc)
  it_is (Some b) x e = let w : x ≡ b = cc in rw w (is_same b)

  it_is_not : (o : Option ℕ) (x : ℕ) → o ≢ Some x → is_it o x ≡ false
  it_is_not None x ne = refl
  it_is_not (Some b) x ne = is_other x b (λ e. ne (ap (λ k. Some k) (sym e)))

  new_parent : (g' c).parent ≡ Some p
  new_parent = parents links c p in_c in_p in_l c ∙ rw (is_same c) refl

  new_prev : (g' c).prev ≡ l
  new_prev = prevs links c p in_c in_p in_l c ∙ rw (is_same c) refl

  new_next : (g' c).next ≡ None
  new_next = nexts links c p in_c in_p in_l c ∙ rw (not_last, is_same c) refl

  old_parents : (x : ℕ) → x ≢ c → (g' x).parent ≡ (at links x).parent
  old_parents x ne = parents links c p in_c in_p in_l x ∙ rw (is_other x c ne) refl

  old_prevs : (x : ℕ) → x ≢ c → (g' x).prev ≡ (at links x).prev
  old_prevs x ne = prevs links c p in_c in_p in_l x ∙ rw (is_other x c ne) refl

  next_last : (x : ℕ) → x ≢ c → l ≡ Some x → (g' x).next ≡ Some c
  next_last x ne e = nexts links c p in_c in_p in_l x ∙ rw (it_is l x e) refl

  old_nexts : (x : ℕ) → x ≢ c → l ≢ Some x → (g' x).next ≡ (at links x).next
  old_nexts x ne no_last = nexts links c p in_c in_p in_l x ∙ rw (it_is_not l x no_last, is_other x c ne) refl

  abbrev kids' : ℕ → List ℕ
  kids' q = cond (q == p) (kids links p ++ c ∷ []) (kids links q)

  hangs_at : Hangs g' p None (g' p).first (kids links p ++ c ∷ []) (g' p).last
  hangs_at =
      let f : (g' p).first ≡ fill c (at links p).first =
      firsts links c p in_c in_p in_l p ∙ ap (λ t. cond t (cond (is_none l) (Some c) (at links p).first) (at links p).first) (is_same p)
      ∙ first_filled (at links) p c (at links p).first (kids links p) l (tied.hangs p) in
      let m : (g' p).last ≡ Some c = lasts links c p in_c in_p in_l p ∙ rw (is_same p) refl in
      subst (λ o. Hangs g' p None o (kids links p ++ c ∷ []) (g' p).last) (sym f)
      (subst (λ o. Hangs g' p None (fill c (at links p).first) (kids links p ++ c ∷ []) o) (sym m)
      (hung_last (at links) g' c p l unlinked new_parent new_prev new_next old_parents old_prevs next_last old_nexts None (at links p).first (kids links p) (tied.hangs p)))

  hangs_other : (q : ℕ) → q ≢ p → Hangs g' q None (g' q).first (kids links q) (g' q).last
  hangs_other q ne =
      let f : (g' q).first ≡ (at links q).first =
      firsts links c p in_c in_p in_l q ∙ ap (λ t. cond t (cond (is_none l) (Some c) (at links q).first) (at links q).first) (is_other q p ne) in
      let m : (g' q).last ≡ (at links q).last = lasts links c p in_c in_p in_l q ∙ rw (is_other q p ne) refl in
      subst (λ o. Hangs g' q None o (kids links q) (g' q).last) (sym f)
      (subst (λ o. Hangs g' q None (at links q).first (kids links q) o) (sym m)
      (hung_others (at links) g' c p l unlinked new_parent new_prev new_next old_parents old_prevs next_last old_nexts q ne last_parent None (at links q).first (kids links q) (at links q).last (tied.hangs q)))

  hangs_new : (q : ℕ) → Hangs g' q None (g' q).first (kids' q) (g' q).last
  hangs_new q = by (q == p) refl
    where
      by : (b : Bool) → b ≡ (q == p) → Hangs g' q None (g' q).first (cond b (kids links p ++ c ∷ []) (kids links q)) (g' q).last
      by true e = subst (λ k. Hangs g' k None (g' k).first (kids links p ++ c ∷ []) (g' k).last) (sym (same_of q p e)) hangs_at
      by false e = hangs_other q (other_of q p e)

  kids_new : (q : ℕ) → kids (linked links c p) q ≡ kids' q
  kids_new q = kids_are (linked links c p) q (kids' q) (hangs_new q)

  member_new : (x q : ℕ) → (g' x).parent ≡ Some q → has x (kids' q) ≡ true
  member_new x q h = by (x == c) refl (sym (parents links c p in_c in_p in_l x) ∙ h)
    where
      among : (b : Bool) → b ≡ (q == p) → has x (kids links q) ≡ true → has x (cond b (kids links p ++ c ∷ []) (kids links q)) ≡ true
      among true e r = has_still x c (kids links p) (ap (λ k. has x (kids links k)) (sym (same_of q p e)) ∙ r)
      among false e r = r

      by : (b : Bool) → b ≡ (x == c) → cond b (Some p) (at links x).parent ≡ Some q → has x (kids' q) ≡ true
      by true e t =
          let s : q ≡ p = cc in
          let w : x ≡ c = same_of x c e in
          let r : (q == p) ≡ true = rw s (is_same p) in
          rw (r, w) (has_last c (kids links p))
      by false e t = among (q == p) refl (tied.member x q t)

  pub tied_linked : IsTied (linked links c p)
  tied_linked = record {
    hangs = λ q. subst (λ ks. Hangs g' q None (g' q).first ks (g' q).last) (sym (kids_new q)) (hangs_new q);
    member = λ x q h. ap (λ ks. has x ks) (kids_new q) ∙ member_new x q h;
  }

  abbrev rows1 : List Row
  rows1 = set (rows_of links) c (record (row_at (rows_of links) c) { parent = Some p })

  long_rows : length (rows_of links) ≡ length links
  long_rows = length-map links (row_of links)

  row_new : (i : ℕ) → i < length links → row_at (rows_of (linked links c p)) i ≡ row_at (rows_with (rows_of links) c p) i
  row_new i in_i =
      let in_rows : c < length (rows_of links) = rw long_rows in_c in
      let long_rows1 : length rows1 ≡ length links = length-set (rows_of links) c _ ∙ long_rows in
      let in_rows1 : p < length rows1 = rw long_rows1 in_p in
      let left : row_at (rows_of (linked links c p)) i ≡ record { parent = (g' i).parent; children = kids (linked links c p) i } =
      row_read (linked links c p) i (rw (long links c p in_c in_p in_l) in_i) in
      let right = at_set bare_row rows1 p (record (row_at rows1 p) { children = (row_at (rows_of links) p).children ++ c ∷ [] }) i in_rows1 in
      let row1 : (k : ℕ) → row_at rows1 k ≡ cond (k == c) (record (row_at (rows_of links) c) { parent = Some p }) (row_at (rows_of links) k) =
      λ k. at_set bare_row (rows_of links) c (record (row_at (rows_of links) c) { parent = Some p }) k in_rows in
      left ∙ same_row (parents links c p in_c in_p in_l i) (kids_new i)
      ∙ by (i == p) (i == c) refl refl (row1 i) (row1 p)
      ∙ sym right
    where
      by : (b t : Bool) → b ≡ (i == p) → t ≡ (i == c)
          → row_at rows1 i ≡ cond t (record (row_at (rows_of links) c) { parent = Some p }) (row_at (rows_of links) i)
          → row_at rows1 p ≡ cond (p == c) (record (row_at (rows_of links) c) { parent = Some p }) (row_at (rows_of links) p)
          → record { parent = cond t (Some p) (at links i).parent; children = cond b (kids links p ++ c ∷ []) (kids links i) }
          ≡ cond b (record (row_at rows1 p) { children = (row_at (rows_of links) p).children ++ c ∷ [] }) (row_at rows1 i)
      by true true e f ri rp =
          let s : p ≡ i = sym (same_of i p e) in
          same_row (sym (ap (λ k. (row_at rows1 k).parent) s ∙ ap (λ r. r.parent) ri)) (ap (λ r. r.children ++ c ∷ []) (sym (row_read links p in_p)))
      by true false e f ri rp =
          let s : p ≡ i = sym (same_of i p e) in
          same_row (sym (ap (λ k. (row_at rows1 k).parent) s ∙ ap (λ r. r.parent) ri ∙ ap (λ r. r.parent) (row_read links i in_i))) (ap (λ r. r.children ++ c ∷ []) (sym (row_read links p in_p)))
      by false true e f ri rp =
          let s : c ≡ i = sym (same_of i c f) in
          same_row (sym (ap (λ r. r.parent) ri)) (sym (ap (λ r. r.children) ri ∙ ap (λ r. r.children) (row_read links c in_c) ∙ ap (λ k. kids links k) s))
      by false false e f ri rp = sym (ri ∙ row_read links i in_i)

  pub rows_linked : rows_of (linked links c p) ≡ rows_with (rows_of links) c p
  rows_linked =
      let m : length (rows_of (linked links c p)) ≡ length links = length-map (linked links c p) (row_of (linked links c p)) ∙ long links c p in_c in_p in_l in
      let n : length (rows_with (rows_of links) c p) ≡ length links = length-set rows1 p _ ∙ length-set (rows_of links) c _ ∙ long_rows in
      ext_get_or bare_row (rows_of (linked links c p)) (rows_with (rows_of links) c p) (m ∙ sym n) (λ i s. row_new i (subst (λ k. i < k) m s))
