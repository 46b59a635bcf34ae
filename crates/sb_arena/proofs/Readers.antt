-- What is read of links, and a node more.
use Rattle.std.proofs.Common.{◌≡◌, ℕ, ◌+◌, ◌<◌, ◌≤◌, ◌==◌, Bool, true, false, zero, suc, refl, sym, ◌∙◌, ap, subst, arith, List, [], ◌∷◌, ◌++◌, length, if◌then◌else◌, get_or}
use Rattle.std.proofs.lemmas.Bool.Decides.{nat_tests}
use Rattle.std.proofs.lemmas.Bool.{false≢true}
use Rattle.std.proofs.lemmas.Grind.{common_steps}
use Rattle.std.proofs.lemmas.List.{ext_get_or, get_or_past, get_or_default, length-map}
use Rattle.std.specs.Prelude.{Option, None, Some, ◌||◌, nat_le, IsSome, IfSome}
use Rattle.sb_arena.specs.declared.links.Link.{Link}
use Rattle.sb_arena.specs.Forests.{bare_row, row_at, after, first_of, next_below, Forest, IsLive, value_at, parent_of, next_of, with_child, has}
use Rattle.sb_arena.specs.Links.{no_link, at, linked, chain, kids, row_of, rows_of, Hangs, IsTied, next_linked, next_where}
use Rattle.sb_arena.proofs.HangLemmas.{alike}
use Rattle.sb_arena.proofs.LinkTies.{kids_are, same_row, row_read, in_l, tied_linked, rows_linked}
use Rattle.sb_arena.proofs.LinkLaws.{same_of, long}

first_hangs : (g : ℕ → Link) (n : ℕ) (b here : Option ℕ) (xs : List ℕ) (l : Option ℕ) → Hangs g n b here xs l → here ≡ first_of xs
first_hangs g n b here [] l h = h.0
first_hangs g n b here (x ∷ xs) l h = h.0

-- the first child
pub first_read : (links : List Link) (n : ℕ) → IsTied links → n < length links → (at links n).first ≡ first_of (row_at (rows_of links) n).children
first_read links n tied s = first_hangs (at links) n None (at links n).first (kids links n) (at links n).last (tied.hangs n) ∙ sym (ap (λ r. first_of r.children) (row_read links n s))

next_hangs : (g : ℕ → Link) (n : ℕ) (b here : Option ℕ) (xs : List ℕ) (l : Option ℕ) (c : ℕ) → Hangs g n b here xs l → has c xs ≡ true → (g c).next ≡ after c xs
next_hangs g n b here [] l c h t = absurd (false≢true t)
next_hangs g n b here (x ∷ xs) l c h t = by (x == c) refl t (next_hangs g n (Some x) (g x).next xs l c h.3)
  where
    by : (s : Bool) → s ≡ (x == c) → (s || has c xs) ≡ true → (has c xs ≡ true → (g c).next ≡ after c xs) → (g c).next ≡ (if s then first_of xs else after c xs)
    by true e t f = ap (λ k. (g k).next) (sym (same_of x c e)) ∙ first_hangs g n (Some x) (g x).next xs l h.3
    by false e t f = f t

-- what is past the end has no children
no_kids : (links : List Link) (n : ℕ) → length links ≤ n → kids links n ≡ []
no_kids links n s = ap (λ u. chain (length links) (at links) u.first) (get_or_past links n no_link s) ∙ stops (length links)
  where
    stops : (k : ℕ) → chain k (at links) None ≡ []
    stops zero = refl
    stops (suc k) = refl

-- a parent is there
pub parent_present : (links : List Link) (c p : ℕ) → IsTied links → (at links c).parent ≡ Some p → p < length links
parent_present links c p tied h = by (nat_le (length links) p) refl
  where
    by : (b : Bool) → b ≡ nat_le (length links) p → p < length links
    by true e =
        let s : length links ≤ p = grind (arith, nat_tests, e) in
        absurd (false≢true (ap (λ ks. has c ks) (sym (no_kids links p s)) ∙ tied.member c p h))
    by false e = grind (arith, nat_tests, e)

-- the row of any number
pub row_read_any : (links : List Link) (n : ℕ) → row_at (rows_of links) n ≡ record { parent = (at links n).parent; children = kids links n }
row_read_any links n = by (nat_le (length links) n) refl
  where
    by : (b : Bool) → b ≡ nat_le (length links) n → row_at (rows_of links) n ≡ record { parent = (at links n).parent; children = kids links n }
    by true e =
        let s : length links ≤ n = grind (arith, nat_tests, e) in
        let t : length (rows_of links) ≤ n = rw (length-map links (row_of links)) s in
        get_or_past (rows_of links) n bare_row t ∙ same_row (ap (λ u. u.parent) (sym (get_or_past links n no_link s))) (sym (no_kids links n s))
    by false e = row_read links n (grind (arith, nat_tests, e))

-- the one after a node
pub next_read : (links : List Link) (n : ℕ) → IsTied links → n < length links
    → next_linked (at links n) ≡ next_below (rows_of links) n (row_at (rows_of links) n).parent
next_read links n tied s = by (at links n).parent refl ∙ sym (ap (λ r. next_below (rows_of links) n r.parent) (row_read links n s))
  where
    by : (o : Option ℕ) → (at links n).parent ≡ o → next_where o (at links n).next ≡ next_below (rows_of links) n o
    by None e = refl
    by (Some p) e =
        next_hangs (at links) p None (at links p).first (kids links p) (at links p).last n (tied.hangs p) (tied.member n p e)
        ∙ sym (ap (λ r. after n r.children) (row_read links p (parent_present links n p tied e)))

-- one more of what a place past the end has
pub same_past : {A : Type 0} (d : A) (xs : List A) (n : ℕ) → get_or (xs ++ d ∷ []) n d ≡ get_or xs n d
same_past d [] zero = refl
same_past d [] (suc n) = refl
same_past d (x ∷ xs) zero = refl
same_past d (x ∷ xs) (suc n) = same_past d xs n

-- a node that is not linked changes no link
module _ (links : List Link) (tied : IsTied links) where
  abbrev more : List Link
  more = links ++ no_link ∷ []

  same_at : (n : ℕ) → at more n ≡ at links n
  same_at n = same_past no_link links n

  hangs_added : (n : ℕ) → Hangs (at more) n None (at more n).first (kids links n) (at more n).last
  hangs_added n =
      subst (λ u. Hangs (at more) n None u.first (kids links n) u.last) (sym (same_at n))
      (alike (at links) (at more) n (λ x h. (ap (λ u. u.parent) (same_at x), ap (λ u. u.prev) (same_at x), ap (λ u. u.next) (same_at x)))
      None (at links n).first (kids links n) (at links n).last (tied.hangs n))

  kids_added : (n : ℕ) → kids more n ≡ kids links n
  kids_added n = kids_are more n (kids links n) (hangs_added n)

  pub tied_added : IsTied (links ++ no_link ∷ [])
  tied_added = record {
    hangs = λ n. subst (λ ks. Hangs (at more) n None (at more n).first ks (at more n).last) (sym (kids_added n)) (hangs_added n);
    member = λ c p h. ap (λ ks. has c ks) (kids_added p) ∙ tied.member c p (ap (λ u. u.parent) (sym (same_at c)) ∙ h);
  }

  long_one : {A : Type 0} (xs : List A) (x : A) → length (xs ++ x ∷ []) ≡ length xs + 1
  long_one xs x = grind (arith, common_steps)

  pub rows_added : rows_of (links ++ no_link ∷ []) ≡ rows_of links ++ bare_row ∷ []
  rows_added =
      let m : length (rows_of more) ≡ length links + 1 = length-map more (row_of more) ∙ long_one links no_link in
      let n : length (rows_of links ++ bare_row ∷ []) ≡ length links + 1 = long_one (rows_of links) bare_row ∙ ap (λ k. k + 1) (length-map links (row_of links)) in
      ext_get_or bare_row (rows_of more) (rows_of links ++ bare_row ∷ []) (m ∙ sym n) (λ i s.
      row_read_any more i ∙ same_row (ap (λ u. u.parent) (same_at i)) (kids_added i) ∙ sym (row_read_any links i) ∙ sym (same_past bare_row (rows_of links) i))

-- a live node is there
pub live_present : {T : Type 0} (values : List (Option T)) (n : ℕ) → IsSome (get_or values n None) → n < length values
live_present values n h = by (nat_le (length values) n) refl
  where
    by : (b : Bool) → b ≡ nat_le (length values) n → n < length values
    by true e =
        let s : length values ≤ n = grind (arith, nat_tests, e) in
        absurd (false≢true (subst (λ o. IsSome o) (get_or_past values n None s) h))
    by false e = grind (arith, nat_tests, e)

module _ {T : Type 0} (links : List Link) (values : List (Option T)) (free : List ℕ) (f : Forest T) (e : record { rows = rows_of links; values = values; free = free } ≡ f)
    (sound : (length links ≡ length values) × IsTied links) where
  pub live_in : (n : ℕ) → IsLive f n → n < length links
  live_in n h = subst (λ k. n < k) (sym sound.0) (live_present values n (subst (λ f. IsLive f n) (sym e) h))

  -- the value of a live node is the one at its number
  pub value_read : (n : ℕ) → IsLive f n → (r : Option T) → r ≡ get_or values n r → value_at f n ≡ r
  value_read n h r w =
      ap (λ f. value_at f n) (sym e) ∙ get_or_default values n None r (live_present values n (subst (λ f. IsLive f n) (sym e) h)) ∙ sym w

  pub next_all : (n : ℕ) → IsLive f n → next_linked (at links n) ≡ next_of f n
  next_all n h = next_read links n sound.1 (live_in n h) ∙ ap (λ f. next_of f n) e

  -- a node that hangs nowhere is linked last
  module _ (c p : ℕ) (live_c : IsLive f c) (live_p : IsLive f p) (h : parent_of f c ≡ None) where
    pub unlinked : (at links c).parent ≡ None
    unlinked = sym (ap (λ r. r.parent) (row_read links c (live_in c live_c))) ∙ ap (λ f. parent_of f c) e ∙ h

    last_in : (b : ℕ) → (at links p).last ≡ Some b → b < length links
    last_in = in_l links c p (live_in c live_c) (live_in p live_p) sound.1 unlinked

    pub link_last : IfSome (at links p).last (λ b. b < length links)
    link_last = by (at links p).last last_in
      where
        by : (o : Option ℕ) → ((b : ℕ) → o ≡ Some b → b < length links) → IfSome o (λ b. b < length links)
        by None i = tt
        by (Some b) i = i b refl

    pub link_sound : (length (linked links c p) ≡ length values) × IsTied (linked links c p)
    link_sound = (long links c p (live_in c live_c) (live_in p live_p) last_in ∙ sound.0, tied_linked links c p (live_in c live_c) (live_in p live_p) sound.1 unlinked)

    pub link_whole : record { rows = rows_of (linked links c p); values = values; free = free } ≡ with_child f c p
    link_whole =
        (λ i. record { rows = rows_linked links c p (live_in c live_c) (live_in p live_p) sound.1 unlinked i; values = values; free = free })
        ∙ ap (λ f. with_child f c p) e
