-- Links agree after a node is unlinked, and the rows are those without it.
use Rattle.std.proofs.Common.{◌≡◌, ◌≢◌, ℕ, ◌<◌, ◌==◌, Bool, true, false, cond, refl, sym, ◌∙◌, ap, subst, List, [], ◌∷◌, length, set, length-set, ◌⊎◌, inl, inr}
use Rattle.std.proofs.lemmas.Bool.{false≢true}
use Rattle.std.proofs.lemmas.List.{ext_get_or, length-map}
use Rattle.std.specs.Prelude.{Option, None, Some}
use Rattle.sb_arena.specs.declared.links.Link.{Link}
use Rattle.sb_arena.specs.Forests.{Row, bare_row, row_at, rows_without, without, has}
use Rattle.sb_arena.specs.Links.{at, unlinked, joined_on, joined_back, kids, row_of, rows_of, Hangs, IsTied}
use Rattle.sb_arena.proofs.HangLemmas.{ends, alike}
use Rattle.sb_arena.proofs.LinkLaws.{same_of, other_of, is_same, is_other, at_set, is_it, is_none, changed, kept}
use Rattle.sb_arena.proofs.LinkTies.{present, kids_are, same_row, row_read}
use Rattle.sb_arena.proofs.Readers.{parent_present}
use Rattle.sb_arena.proofs.UnlinkLemmas.{On, back_of, on_of, no_self, has_but, taken}

same_some : {a b : ℕ} → Some a ≡ Some b → a ≡ b
same_some e = cc

agree : (s t : Bool) → (s ≡ true → t ≡ true) → (t ≡ true → s ≡ true) → s ≡ t
agree true true f g = refl
agree true false f g = sym (f refl)
agree false true f g = g refl
agree false false f g = refl

pub it_is : (o : Option ℕ) (x : ℕ) → o ≡ Some x → is_it o x ≡ true
it_is None x e = absurd (cc)
it_is (Some b) x e = let w : x ≡ b = cc in rw w (is_same b)

pub it_was : (o : Option ℕ) (x : ℕ) → is_it o x ≡ true → o ≡ Some x
it_was None x e = absurd (false≢true e)
it_was (Some b) x e = ap (λ k. Some k) (sym (same_of x b (sym e)))

pub it_is_not : (o : Option ℕ) (x : ℕ) → o ≢ Some x → is_it o x ≡ false
it_is_not o x ne = by (is_it o x) refl
  where
    by : (b : Bool) → is_it o x ≡ b → b ≡ false
    by true e = absurd (ne (it_was o x e))
    by false e = refl

module _ (links : List Link) (c p : ℕ) (in_c : c < length links) (in_p : p < length links) where
  abbrev next_c : Option ℕ
  next_c = (at links c).next

  abbrev prev_c : Option ℕ
  prev_c = (at links c).prev

  abbrev ls1 : Option ℕ → List Link
  ls1 o = joined_on o next_c p links

  abbrev ls2 : Option ℕ → Option ℕ → List Link
  ls2 o u = joined_back u prev_c p (ls1 o)

  module _ (in_prev : (b : ℕ) → prev_c ≡ Some b → b < length links) (in_next : (b : ℕ) → next_c ≡ Some b → b < length links) where
    long1 : (o : Option ℕ) → length (ls1 o) ≡ length links
    long1 None = length-set links p _
    long1 (Some b) = length-set links b _

    long2 : (o u : Option ℕ) → length (ls2 o u) ≡ length links
    long2 o None = length-set (ls1 o) p _ ∙ long1 o
    long2 o (Some b) = length-set (ls1 o) b _ ∙ long1 o

    pub long : length (unlinked links c p) ≡ length links
    long = length-set (ls2 prev_c next_c) c _ ∙ long2 prev_c next_c

    abbrev Inside : Option ℕ → Type 0
    Inside o = (b : ℕ) → o ≡ Some b → b < length links

    parent1 : (o : Option ℕ) → Inside o → (x : ℕ) → (at (ls1 o) x).parent ≡ (at links x).parent
    parent1 None s x = kept (λ u. u.parent) links p _ x in_p refl
    parent1 (Some b) s x = kept (λ u. u.parent) links b _ x (s b refl) refl

    parent2 : (o u : Option ℕ) → Inside u → (x : ℕ) → (at (ls2 o u) x).parent ≡ (at (ls1 o) x).parent
    parent2 o None s x = kept (λ u. u.parent) (ls1 o) p _ x (rw (long1 o) in_p) refl
    parent2 o (Some b) s x = kept (λ u. u.parent) (ls1 o) b _ x (rw (long1 o) (s b refl)) refl

    next1 : (o : Option ℕ) → Inside o → (x : ℕ) → (at (ls1 o) x).next ≡ cond (is_it o x) next_c (at links x).next
    next1 None s x = kept (λ u. u.next) links p _ x in_p refl
    next1 (Some b) s x = changed (λ u. u.next) links b _ x (s b refl)

    next2 : (o u : Option ℕ) → Inside u → (x : ℕ) → (at (ls2 o u) x).next ≡ (at (ls1 o) x).next
    next2 o None s x = kept (λ u. u.next) (ls1 o) p _ x (rw (long1 o) in_p) refl
    next2 o (Some b) s x = kept (λ u. u.next) (ls1 o) b _ x (rw (long1 o) (s b refl)) refl

    prev1 : (o : Option ℕ) → Inside o → (x : ℕ) → (at (ls1 o) x).prev ≡ (at links x).prev
    prev1 None s x = kept (λ u. u.prev) links p _ x in_p refl
    prev1 (Some b) s x = kept (λ u. u.prev) links b _ x (s b refl) refl

    prev2 : (o u : Option ℕ) → Inside u → (x : ℕ) → (at (ls2 o u) x).prev ≡ cond (is_it u x) prev_c (at (ls1 o) x).prev
    prev2 o None s x = kept (λ u. u.prev) (ls1 o) p _ x (rw (long1 o) in_p) refl
    prev2 o (Some b) s x = changed (λ u. u.prev) (ls1 o) b _ x (rw (long1 o) (s b refl))

    settle : {A : Type 0} (t : Bool) (u : A) → u ≡ cond t u u
    settle true u = refl
    settle false u = refl

    first1 : (o : Option ℕ) → Inside o → (x : ℕ) → (at (ls1 o) x).first ≡ cond (x == p) (cond (is_none o) next_c (at links x).first) (at links x).first
    first1 None s x = changed (λ u. u.first) links p _ x in_p
    first1 (Some b) s x = kept (λ u. u.first) links b _ x (s b refl) refl ∙ settle (x == p) (at links x).first

    first2 : (o u : Option ℕ) → Inside u → (x : ℕ) → (at (ls2 o u) x).first ≡ (at (ls1 o) x).first
    first2 o None s x = kept (λ u. u.first) (ls1 o) p _ x (rw (long1 o) in_p) refl
    first2 o (Some b) s x = kept (λ u. u.first) (ls1 o) b _ x (rw (long1 o) (s b refl)) refl

    last1 : (o : Option ℕ) → Inside o → (x : ℕ) → (at (ls1 o) x).last ≡ (at links x).last
    last1 None s x = kept (λ u. u.last) links p _ x in_p refl
    last1 (Some b) s x = kept (λ u. u.last) links b _ x (s b refl) refl

    last2 : (o u : Option ℕ) → Inside u → (x : ℕ) → (at (ls2 o u) x).last ≡ cond (x == p) (cond (is_none u) prev_c (at (ls1 o) x).last) (at (ls1 o) x).last
    last2 o None s x = changed (λ u. u.last) (ls1 o) p _ x (rw (long1 o) in_p)
    last2 o (Some b) s x = kept (λ u. u.last) (ls1 o) b _ x (rw (long1 o) (s b refl)) refl ∙ settle (x == p) (at (ls1 o) x).last

    abbrev ls : List Link
    ls = ls2 prev_c next_c

    in_ls : c < length ls
    in_ls = rw (long2 prev_c next_c) in_c

    pub parents : (x : ℕ) → (at (unlinked links c p) x).parent ≡ cond (x == c) None (at links x).parent
    parents x = changed (λ u. u.parent) ls c _ x in_ls ∙ ap (λ o. cond (x == c) None o) (parent2 prev_c next_c in_next x ∙ parent1 prev_c in_prev x)

    pub nexts : (x : ℕ) → (at (unlinked links c p) x).next ≡ cond (is_it prev_c x) next_c (at links x).next
    nexts x = kept (λ u. u.next) ls c _ x in_ls refl ∙ next2 prev_c next_c in_next x ∙ next1 prev_c in_prev x

    pub prevs : (x : ℕ) → (at (unlinked links c p) x).prev ≡ cond (is_it next_c x) prev_c (at links x).prev
    prevs x = kept (λ u. u.prev) ls c _ x in_ls refl ∙ prev2 prev_c next_c in_next x ∙ ap (λ o. cond (is_it next_c x) prev_c o) (prev1 prev_c in_prev x)

    pub firsts : (x : ℕ) → (at (unlinked links c p) x).first ≡ cond (x == p) (cond (is_none prev_c) next_c (at links x).first) (at links x).first
    firsts x = kept (λ u. u.first) ls c _ x in_ls refl ∙ first2 prev_c next_c in_next x ∙ first1 prev_c in_prev x

    pub lasts : (x : ℕ) → (at (unlinked links c p) x).last ≡ cond (x == p) (cond (is_none next_c) prev_c (at links x).last) (at links x).last
    lasts x =
        kept (λ u. u.last) ls c _ x in_ls refl ∙ last2 prev_c next_c in_next x
        ∙ ap (λ o. cond (x == p) (cond (is_none next_c) prev_c o) o) (last1 prev_c in_prev x)

module _ (links : List Link) (c p : ℕ) (in_c : c < length links) (tied : IsTied links) (below : (at links c).parent ≡ Some p) where
  pub in_p : p < length links
  in_p = parent_present links c p tied below

  abbrev g : ℕ → Link
  g = at links

  backs : (x : ℕ) → (g x).parent ≡ Some p → (((g x).prev ≡ None) × ((g p).first ≡ Some x)) ⊎ ((y : ℕ) × ((g x).prev ≡ Some y) × ((g y).next ≡ Some x) × ((g y).parent ≡ Some p))
  backs x e = back_of g p (g p).first (kids links p) (g p).last x (tied.hangs p) (tied.member x p e)

  ons : (x : ℕ) → (g x).parent ≡ Some p → On g p (g p).last x
  ons x e = on_of g p None (g p).first (kids links p) (g p).last x (tied.hangs p) (tied.member x p e)

  -- of two that are side by side each names the other
  next_prev : (x y : ℕ) → (g x).parent ≡ Some p → (g x).next ≡ Some y → ((g y).prev ≡ Some x) × ((g y).parent ≡ Some p)
  next_prev x y e n = by (ons x e)
    where
      by : On g p (g p).last x → ((g y).prev ≡ Some x) × ((g y).parent ≡ Some p)
      by (inl w) = let z : None ≡ Some y = sym w.0 ∙ n in absurd (cc)
      by (inr w) =
          let s : w.0 ≡ y = same_some (sym w.1 ∙ n) in
          (ap (λ k. (g k).prev) (sym s) ∙ w.2, ap (λ k. (g k).parent) (sym s) ∙ w.3)

  prev_next : (x y : ℕ) → (g x).parent ≡ Some p → (g x).prev ≡ Some y → ((g y).next ≡ Some x) × ((g y).parent ≡ Some p)
  prev_next x y e n = by (backs x e)
    where
      by : (((g x).prev ≡ None) × ((g p).first ≡ Some x)) ⊎ ((y : ℕ) × ((g x).prev ≡ Some y) × ((g y).next ≡ Some x) × ((g y).parent ≡ Some p)) → ((g y).next ≡ Some x) × ((g y).parent ≡ Some p)
      by (inl w) = let z : None ≡ Some y = sym w.0 ∙ n in absurd (cc)
      by (inr w) =
          let s : w.0 ≡ y = same_some (sym w.1 ∙ n) in
          (ap (λ k. (g k).next) (sym s) ∙ w.2, ap (λ k. (g k).parent) (sym s) ∙ w.3)

  pub in_prev : (b : ℕ) → (g c).prev ≡ Some b → b < length links
  in_prev b e = present links b p (prev_next c b below e).1

  pub in_next : (b : ℕ) → (g c).next ≡ Some b → b < length links
  in_next b e = present links b p (next_prev c b below e).1

  no_next : is_it (g c).next c ≡ false
  no_next = it_is_not (g c).next c (no_self g p None (g p).first (kids links p) (g p).last c (tied.hangs p) (tied.member c p below))

  no_prev : is_it (g c).prev c ≡ false
  no_prev = it_is_not (g c).prev c (λ e. no_self g p None (g p).first (kids links p) (g p).last c (tied.hangs p) (tied.member c p below) (prev_next c c below e).0)

  abbrev g' : ℕ → Link
  g' = at (unlinked links c p)

  old_parents : (x : ℕ) → x ≢ c → (g' x).parent ≡ (g x).parent
  old_parents x ne = parents links c p in_c in_p in_prev in_next x ∙ rw (is_other x c ne) refl

  new_nexts : (x : ℕ) → (g x).parent ≡ Some p → (g' x).next ≡ cond (is_it (g x).next c) (g c).next (g x).next
  new_nexts x e =
      nexts links c p in_c in_p in_prev in_next x
      ∙ ap (λ t. cond t (g c).next (g x).next) (agree (is_it (g c).prev x) (is_it (g x).next c)
      (λ t. it_is (g x).next c (prev_next c x below (it_was (g c).prev x t)).0)
      (λ t. it_is (g c).prev x (next_prev x c e (it_was (g x).next c t)).0))

  new_prevs : (x : ℕ) → (g x).parent ≡ Some p → (g' x).prev ≡ cond (is_it (g x).prev c) (g c).prev (g x).prev
  new_prevs x e =
      prevs links c p in_c in_p in_prev in_next x
      ∙ ap (λ t. cond t (g c).prev (g x).prev) (agree (is_it (g c).next x) (is_it (g x).prev c)
      (λ t. it_is (g x).prev c (next_prev c x below (it_was (g c).next x t)).0)
      (λ t. it_is (g c).next x (prev_next x c e (it_was (g x).prev c t)).0))

  head_prev : (here : Option ℕ) (xs : List ℕ) (l : Option ℕ) → Hangs g p None here xs l → here ≡ Some c → (g c).prev ≡ None
  head_prev here [] l h e = let z : None ≡ Some c = sym h.0 ∙ e in absurd (cc)
  head_prev here (x ∷ xs) l h e =
      let s : x ≡ c = same_some (sym h.0 ∙ e) in
      ap (λ k. (g k).prev) (sym s) ∙ h.2

  last_next : (here : Option ℕ) (xs : List ℕ) (l : Option ℕ) → Hangs g p None here xs l → l ≡ Some c → (g c).next ≡ None
  last_next here [] l h e = let z : None ≡ Some c = sym h.1 ∙ e in absurd (cc)
  last_next here (x ∷ xs) l h e = (ends g p None here x xs l c h e).0

  none_was : (o : Option ℕ) → is_none o ≡ true → o ≡ None
  none_was None e = refl
  none_was (Some b) e = absurd (false≢true e)

  is_first : is_none (g c).prev ≡ is_it (g p).first c
  is_first =
      agree (is_none (g c).prev) (is_it (g p).first c)
      (λ t. it_is (g p).first c (by (backs c below) (none_was (g c).prev t)))
      (λ t. ap is_none (head_prev (g p).first (kids links p) (g p).last (tied.hangs p) (it_was (g p).first c t)))
    where
      by : (((g c).prev ≡ None) × ((g p).first ≡ Some c)) ⊎ ((y : ℕ) × ((g c).prev ≡ Some y) × ((g y).next ≡ Some c) × ((g y).parent ≡ Some p)) → (g c).prev ≡ None → (g p).first ≡ Some c
      by (inl w) e = w.1
      by (inr w) e = let z : None ≡ Some w.0 = sym e ∙ w.1 in absurd (cc)

  is_last : is_none (g c).next ≡ is_it (g p).last c
  is_last =
      agree (is_none (g c).next) (is_it (g p).last c)
      (λ t. it_is (g p).last c (by (ons c below) (none_was (g c).next t)))
      (λ t. ap is_none (last_next (g p).first (kids links p) (g p).last (tied.hangs p) (it_was (g p).last c t)))
    where
      by : On g p (g p).last c → (g c).next ≡ None → (g p).last ≡ Some c
      by (inl w) e = w.1
      by (inr w) e = let z : None ≡ Some w.0 = sym e ∙ w.1 in absurd (cc)

  hangs_at : Hangs g' p None (g' p).first (without c (kids links p)) (g' p).last
  hangs_at =
      let f : (g' p).first ≡ cond (is_it (g p).first c) (g c).next (g p).first =
      firsts links c p in_c in_p in_prev in_next p ∙ ap (λ t. cond t (cond (is_none (g c).prev) (g c).next (g p).first) (g p).first) (is_same p)
      ∙ ap (λ t. cond t (g c).next (g p).first) is_first in
      let m : (g' p).last ≡ cond (is_it (g p).last c) (g c).prev (g p).last =
      lasts links c p in_c in_p in_prev in_next p ∙ ap (λ t. cond t (cond (is_none (g c).next) (g c).prev (g p).last) (g p).last) (is_same p)
      ∙ ap (λ t. cond t (g c).prev (g p).last) is_last in
      subst (λ o. Hangs g' p None o (without c (kids links p)) (g' p).last) (sym f)
      (subst (λ o. Hangs g' p None (cond (is_it (g p).first c) (g c).next (g p).first) (without c (kids links p)) o) (sym m)
      (taken g g' c p no_next no_prev old_parents new_nexts new_prevs None (g p).first (kids links p) (g p).last (tied.hangs p)))

  hangs_other : (q : ℕ) → q ≢ p → Hangs g' q None (g' q).first (kids links q) (g' q).last
  hangs_other q ne =
      let f : (g' q).first ≡ (g q).first =
      firsts links c p in_c in_p in_prev in_next q ∙ ap (λ t. cond t (cond (is_none (g c).prev) (g c).next (g q).first) (g q).first) (is_other q p ne) in
      let m : (g' q).last ≡ (g q).last =
      lasts links c p in_c in_p in_prev in_next q ∙ ap (λ t. cond t (cond (is_none (g c).next) (g c).prev (g q).last) (g q).last) (is_other q p ne) in
      subst (λ o. Hangs g' q None o (kids links q) (g' q).last) (sym f)
      (subst (λ o. Hangs g' q None (g q).first (kids links q) o) (sym m)
      (alike g g' q (λ x e. (
        old_parents x (λ s. ne (same_some (sym e ∙ ap (λ k. (g k).parent) s ∙ below))),
        prevs links c p in_c in_p in_prev in_next x
            ∙ ap (λ t. cond t (g c).prev (g x).prev) (it_is_not (g c).next x (λ s. ne (same_some (sym e ∙ (next_prev c x below s).1)))),
        nexts links c p in_c in_p in_prev in_next x
            ∙ ap (λ t. cond t (g c).next (g x).next) (it_is_not (g c).prev x (λ s. ne (same_some (sym e ∙ (prev_next c x below s).1)))),
      ))
      None (g q).first (kids links q) (g q).last (tied.hangs q)))

  abbrev kids' : ℕ → List ℕ
  kids' q = cond (q == p) (without c (kids links p)) (kids links q)

  hangs_new : (q : ℕ) → Hangs g' q None (g' q).first (kids' q) (g' q).last
  hangs_new q = by (q == p) refl
    where
      by : (b : Bool) → b ≡ (q == p) → Hangs g' q None (g' q).first (cond b (without c (kids links p)) (kids links q)) (g' q).last
      by true e = subst (λ k. Hangs g' k None (g' k).first (without c (kids links p)) (g' k).last) (sym (same_of q p e)) hangs_at
      by false e = hangs_other q (other_of q p e)

  kids_new : (q : ℕ) → kids (unlinked links c p) q ≡ kids' q
  kids_new q = kids_are (unlinked links c p) q (kids' q) (hangs_new q)

  member_new : (x q : ℕ) → (g' x).parent ≡ Some q → has x (kids' q) ≡ true
  member_new x q h = by (x == c) refl (sym (parents links c p in_c in_p in_prev in_next x) ∙ h)
    where
      among : (b : Bool) → b ≡ (q == p) → x ≢ c → has x (kids links q) ≡ true → has x (cond b (without c (kids links p)) (kids links q)) ≡ true
      among true e ne r = has_but x c (kids links p) ne (ap (λ k. has x (kids links k)) (sym (same_of q p e)) ∙ r)
      among false e ne r = r

      by : (b : Bool) → b ≡ (x == c) → cond b None (g x).parent ≡ Some q → has x (kids' q) ≡ true
      by true e t = absurd (cc)
      by false e t = among (q == p) refl (other_of x c e) (tied.member x q t)

  pub tied_unlinked : IsTied (unlinked links c p)
  tied_unlinked = record {
    hangs = λ q. subst (λ ks. Hangs g' q None (g' q).first ks (g' q).last) (sym (kids_new q)) (hangs_new q);
    member = λ x q h. ap (λ ks. has x ks) (kids_new q) ∙ member_new x q h;
  }

  abbrev rows1 : List Row
  rows1 = set (rows_of links) c (record (row_at (rows_of links) c) { parent = None })

  long_rows : length (rows_of links) ≡ length links
  long_rows = length-map links (row_of links)

  row_new : (i : ℕ) → i < length links → row_at (rows_of (unlinked links c p)) i ≡ row_at (rows_without (rows_of links) c p) i
  row_new i in_i =
      let in_rows : c < length (rows_of links) = rw long_rows in_c in
      let long_rows1 : length rows1 ≡ length links = length-set (rows_of links) c _ ∙ long_rows in
      let in_rows1 : p < length rows1 = rw long_rows1 in_p in
      let left : row_at (rows_of (unlinked links c p)) i ≡ record { parent = (g' i).parent; children = kids (unlinked links c p) i } =
      row_read (unlinked links c p) i (rw (long links c p in_c in_p in_prev in_next) in_i) in
      let right = at_set bare_row rows1 p (record (row_at rows1 p) { children = without c (row_at (rows_of links) p).children }) i in_rows1 in
      let row1 : (k : ℕ) → row_at rows1 k ≡ cond (k == c) (record (row_at (rows_of links) c) { parent = None }) (row_at (rows_of links) k) =
      λ k. at_set bare_row (rows_of links) c (record (row_at (rows_of links) c) { parent = None }) k in_rows in
      left ∙ same_row (parents links c p in_c in_p in_prev in_next i) (kids_new i)
      ∙ by (i == p) (i == c) refl refl (row1 i)
      ∙ sym right
    where
      by : (b t : Bool) → b ≡ (i == p) → t ≡ (i == c)
          → row_at rows1 i ≡ cond t (record (row_at (rows_of links) c) { parent = None }) (row_at (rows_of links) i)
          → record { parent = cond t None (at links i).parent; children = cond b (without c (kids links p)) (kids links i) }
          ≡ cond b (record (row_at rows1 p) { children = without c (row_at (rows_of links) p).children }) (row_at rows1 i)
      by true true e f ri =
          let s : p ≡ i = sym (same_of i p e) in
          same_row (sym (ap (λ k. (row_at rows1 k).parent) s ∙ ap (λ r. r.parent) ri)) (ap (λ r. without c r.children) (sym (row_read links p in_p)))
      by true false e f ri =
          let s : p ≡ i = sym (same_of i p e) in
          same_row (sym (ap (λ k. (row_at rows1 k).parent) s ∙ ap (λ r. r.parent) ri ∙ ap (λ r. r.parent) (row_read links i in_i))) (ap (λ r. without c r.children) (sym (row_read links p in_p)))
      by false true e f ri =
          let s : c ≡ i = sym (same_of i c f) in
          same_row (sym (ap (λ r. r.parent) ri)) (sym (ap (λ r. r.children) ri ∙ ap (λ r. r.children) (row_read links c in_c) ∙ ap (λ k. kids links k) s))
      by false false e f ri = sym (ri ∙ row_read links i in_i)

  pub rows_unlinked : rows_of (unlinked links c p) ≡ rows_without (rows_of links) c p
  rows_unlinked =
      let m : length (rows_of (unlinked links c p)) ≡ length links = length-map (unlinked links c p) (row_of (unlinked links c p)) ∙ long links c p in_c in_p in_prev in_next in
      let n : length (rows_without (rows_of links) c p) ≡ length links = length-set rows1 p _ ∙ length-set (rows_of links) c _ ∙ long_rows in
      ext_get_or bare_row (rows_of (unlinked links c p)) (rows_without (rows_of links) c p) (m ∙ sym n) (λ i s. row_new i (subst (λ k. i < k) m s))
