-- Nodes that are linked last: the links agree as before, and the rows say so.
use Rattle.std.proofs.Common.{◌≡◌, ◌≢◌, ℕ, ◌<◌, ◌==◌, Bool, true, false, cond, refl, sym, ◌∙◌, ap, arith, List, length, get_or, set, length-set}
use Rattle.std.proofs.lemmas.Bool.Decides.{nat_tests}
use Rattle.std.proofs.lemmas.List.{get_or-set_same, get_or-set_other}
use Rattle.std.specs.Prelude.{Option, None, Some}
use Rattle.sb_arena.specs.declared.links.Link.{Link}
use Rattle.sb_arena.specs.Links.{no_link, at, with_parent, with_last, with_next, with_prev, linked, linked_end}

pub same_of : (x n : ℕ) → true ≡ (x == n) → x ≡ n
same_of x n e = grind (arith, nat_tests, e)

pub other_of : (x n : ℕ) → false ≡ (x == n) → x ≢ n
other_of x n e w = absurd (grind (arith, nat_tests, e, w))

pub is_same : (n : ℕ) → (n == n) ≡ true
is_same n = grind (arith, nat_tests)

pub is_other : (x n : ℕ) → x ≢ n → (x == n) ≡ false
is_other x n ne = by (x == n) refl
  where
    by : (b : Bool) → b ≡ (x == n) → (x == n) ≡ false
    by true e = absurd (ne (same_of x n e))
    by false e = sym e

-- a list with one element changed
pub at_set : {A : Type 0} (d : A) (ls : List A) (n : ℕ) (v : A) (m : ℕ) → n < length ls → get_or (set ls n v) m d ≡ cond (m == n) v (get_or ls m d)
at_set {A} d ls n v m s = by (m == n) refl
  where
    by : (b : Bool) → b ≡ (m == n) → get_or (set ls n v) m d ≡ cond b v (get_or ls m d)
    by true e = ap (λ k. get_or (set ls n v) k d) (same_of m n e) ∙ get_or-set_same ls n v d s
    by false e = get_or-set_other ls n m v d (other_of m n e)

module _ {X : Type 0} (f : Link → X) (ls : List Link) (n : ℕ) (v : Link) (m : ℕ) (s : n < length ls) where
  pub changed : f (at (set ls n v) m) ≡ cond (m == n) (f v) (f (at ls m))
  changed = ap f (at_set no_link ls n v m s) ∙ by (m == n)
    where
      by : (b : Bool) → f (cond b v (at ls m)) ≡ cond b (f v) (f (at ls m))
      by true = refl
      by false = refl

  pub kept : f v ≡ f (at ls n) → f (at (set ls n v) m) ≡ f (at ls m)
  kept h = changed ∙ by (m == n) refl
    where
      by : (b : Bool) → b ≡ (m == n) → cond b (f v) (f (at ls m)) ≡ f (at ls m)
      by true e = h ∙ ap (λ k. f (at ls k)) (sym (same_of m n e))
      by false e = refl

abbrev pub is_it : Option ℕ → ℕ → Bool
is_it None x = false
is_it (Some b) x = x == b

abbrev pub is_none : Option ℕ → Bool
is_none None = true
is_none (Some _) = false

-- how the fields of links are after a node is linked last
module _ (links : List Link) (c p : ℕ) (in_c : c < length links) (in_p : p < length links) where
  abbrev l : Option ℕ
  l = (at links p).last

  abbrev ls1 : List Link
  ls1 = with_next links c None

  abbrev ls2 : List Link
  ls2 = with_parent ls1 c (Some p)

  abbrev ls3 : List Link
  ls3 = with_prev ls2 c l

  abbrev ls4 : List Link
  ls4 = with_last ls3 p (Some c)

  long1 : length ls1 ≡ length links
  long1 = length-set links c _

  long2 : length ls2 ≡ length links
  long2 = length-set ls1 c _ ∙ long1

  long3 : length ls3 ≡ length links
  long3 = length-set ls2 c _ ∙ long2

  long4 : length ls4 ≡ length links
  long4 = length-set ls3 p _ ∙ long3

  in1 : c < length ls1
  in1 = rw long1 in_c

  in2 : c < length ls2
  in2 = rw long2 in_c

  in3 : p < length ls3
  in3 = rw long3 in_p

  in4 : p < length ls4
  in4 = rw long4 in_p

  module _ (in_l : (b : ℕ) → l ≡ Some b → b < length links) where
    in_l4 : (b : ℕ) → l ≡ Some b → b < length ls4
    in_l4 b e = rw long4 (in_l b e)

    long_end : (o : Option ℕ) → length (linked_end o c p ls4) ≡ length links
    long_end None = length-set ls4 p _ ∙ long4
    long_end (Some b) = length-set ls4 b _ ∙ long4

    pub long : length (linked links c p) ≡ length links
    long = long_end l

    parent_end : (o : Option ℕ) → ((b : ℕ) → o ≡ Some b → b < length ls4) → (x : ℕ) → (at (linked_end o c p ls4) x).parent ≡ (at ls4 x).parent
    parent_end None s x = kept (λ u. u.parent) ls4 p _ x in4 refl
    parent_end (Some b) s x = kept (λ u. u.parent) ls4 b _ x (s b refl) refl

    prev_end : (o : Option ℕ) → ((b : ℕ) → o ≡ Some b → b < length ls4) → (x : ℕ) → (at (linked_end o c p ls4) x).prev ≡ (at ls4 x).prev
    prev_end None s x = kept (λ u. u.prev) ls4 p _ x in4 refl
    prev_end (Some b) s x = kept (λ u. u.prev) ls4 b _ x (s b refl) refl

    last_end : (o : Option ℕ) → ((b : ℕ) → o ≡ Some b → b < length ls4) → (x : ℕ) → (at (linked_end o c p ls4) x).last ≡ (at ls4 x).last
    last_end None s x = kept (λ u. u.last) ls4 p _ x in4 refl
    last_end (Some b) s x = kept (λ u. u.last) ls4 b _ x (s b refl) refl

    next_end : (o : Option ℕ) → ((b : ℕ) → o ≡ Some b → b < length ls4) → (x : ℕ) → (at (linked_end o c p ls4) x).next ≡ cond (is_it o x) (Some c) (at ls4 x).next
    next_end None s x = kept (λ u. u.next) ls4 p _ x in4 refl
    next_end (Some b) s x = changed (λ u. u.next) ls4 b _ x (s b refl)

    first_end : (o : Option ℕ) → ((b : ℕ) → o ≡ Some b → b < length ls4) → (x : ℕ) → (at (linked_end o c p ls4) x).first ≡ cond (x == p) (cond (is_none o) (Some c) (at ls4 x).first) (at ls4 x).first
    first_end None s x = changed (λ u. u.first) ls4 p _ x in4
    first_end (Some b) s x = kept (λ u. u.first) ls4 b _ x (s b refl) refl ∙ by (x == p)
      where
        by : (t : Bool) → (at ls4 x).first ≡ cond t (at ls4 x).first (at ls4 x).first
        by true = refl
        by false = refl

    pub parents : (x : ℕ) → (at (linked links c p) x).parent ≡ cond (x == c) (Some p) (at links x).parent
    parents x =
        parent_end l in_l4 x ∙ kept (λ u. u.parent) ls3 p _ x in3 refl ∙ kept (λ u. u.parent) ls2 c _ x in2 refl
        ∙ changed (λ u. u.parent) ls1 c _ x in1 ∙ ap (λ o. cond (x == c) (Some p) o) (kept (λ u. u.parent) links c _ x in_c refl)

    pub prevs : (x : ℕ) → (at (linked links c p) x).prev ≡ cond (x == c) l (at links x).prev
    prevs x =
        prev_end l in_l4 x ∙ kept (λ u. u.prev) ls3 p _ x in3 refl ∙ changed (λ u. u.prev) ls2 c _ x in2
        ∙ ap (λ o. cond (x == c) l o) (kept (λ u. u.prev) ls1 c _ x in1 refl ∙ kept (λ u. u.prev) links c _ x in_c refl)

    pub lasts : (x : ℕ) → (at (linked links c p) x).last ≡ cond (x == p) (Some c) (at links x).last
    lasts x =
        last_end l in_l4 x ∙ changed (λ u. u.last) ls3 p _ x in3
        ∙ ap (λ o. cond (x == p) (Some c) o) (kept (λ u. u.last) ls2 c _ x in2 refl ∙ kept (λ u. u.last) ls1 c _ x in1 refl ∙ kept (λ u. u.last) links c _ x in_c refl)

    pub nexts : (x : ℕ) → (at (linked links c p) x).next ≡ cond (is_it l x) (Some c) (cond (x == c) None (at links x).next)
    nexts x =
        next_end l in_l4 x
        ∙ ap (λ o. cond (is_it l x) (Some c) o) (kept (λ u. u.next) ls3 p _ x in3 refl ∙ kept (λ u. u.next) ls2 c _ x in2 refl ∙ kept (λ u. u.next) ls1 c _ x in1 refl
        ∙ changed (λ u. u.next) links c _ x in_c)

    first4 : (x : ℕ) → (at ls4 x).first ≡ (at links x).first
    first4 x = kept (λ u. u.first) ls3 p _ x in3 refl ∙ kept (λ u. u.first) ls2 c _ x in2 refl ∙ kept (λ u. u.first) ls1 c _ x in1 refl ∙ kept (λ u. u.first) links c _ x in_c refl

    pub firsts : (x : ℕ) → (at (linked links c p) x).first ≡ cond (x == p) (cond (is_none l) (Some c) (at links x).first) (at links x).first
    firsts x = first_end l in_l4 x ∙ ap (λ o. cond (x == p) (cond (is_none l) (Some c) o) o) (first4 x)
