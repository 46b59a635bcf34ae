-- Nodes that are linked below one, after one of them is unlinked.
use Rattle.std.proofs.Common.{◌≡◌, ◌≢◌, ℕ, ◌==◌, Bool, true, false, cond, refl, sym, ◌∙◌, ap, subst, List, [], ◌∷◌, if◌then◌else◌, ◌⊎◌, inl, inr}
use Rattle.std.proofs.lemmas.Bool.{false≢true}
use Rattle.std.specs.Prelude.{Option, None, Some, not, ◌||◌}
use Rattle.sb_arena.specs.declared.links.Link.{Link}
use Rattle.sb_arena.specs.Links.{Hangs}
use Rattle.sb_arena.specs.Forests.{without, has}
use Rattle.sb_arena.proofs.LinkLaws.{same_of, other_of, is_same, is_other, is_it}

-- what is before a node that is linked
abbrev pub Back : (ℕ → Link) → ℕ → Option ℕ → ℕ → Type 0
Back g n b x = ((g x).prev ≡ b) ⊎ ((y : ℕ) × ((g x).prev ≡ Some y) × ((g y).next ≡ Some x) × ((g y).parent ≡ Some n))

-- and what is after it
abbrev pub On : (ℕ → Link) → ℕ → Option ℕ → ℕ → Type 0
On g n l x = (((g x).next ≡ None) × (l ≡ Some x)) ⊎ ((y : ℕ) × ((g x).next ≡ Some y) × ((g y).prev ≡ Some x) × ((g y).parent ≡ Some n))

-- a node that is linked is the first, or the next of one that is
module _ (g : ℕ → Link) (n : ℕ) where
  back_in : (w : ℕ) → (g w).parent ≡ Some n → (here : Option ℕ) → (g w).next ≡ here → (xs : List ℕ) (l : Option ℕ) (c : ℕ) → Hangs g n (Some w) here xs l → has c xs ≡ true
      → (y : ℕ) × ((g c).prev ≡ Some y) × ((g y).next ≡ Some c) × ((g y).parent ≡ Some n)
  back_in w pw here nw [] l c h t = absurd (false≢true t)
  back_in w pw here nw (x ∷ xs) l c h t = by (x == c) refl t (back_in x h.1 (g x).next refl xs l c h.3)
    where
      by : (s : Bool) → s ≡ (x == c) → (s || has c xs) ≡ true
          → (has c xs ≡ true → (y : ℕ) × ((g c).prev ≡ Some y) × ((g y).next ≡ Some c) × ((g y).parent ≡ Some n))
          → (y : ℕ) × ((g c).prev ≡ Some y) × ((g y).next ≡ Some c) × ((g y).parent ≡ Some n)
      by true e t f =
          let s : x ≡ c = same_of x c e in
          (w, ap (λ k. (g k).prev) (sym s) ∙ h.2, nw ∙ h.0 ∙ ap (λ k. Some k) s, pw)
      by false e t f = f t

  pub back_of : (here : Option ℕ) (xs : List ℕ) (l : Option ℕ) (c : ℕ) → Hangs g n None here xs l → has c xs ≡ true
      → (((g c).prev ≡ None) × (here ≡ Some c)) ⊎ ((y : ℕ) × ((g c).prev ≡ Some y) × ((g y).next ≡ Some c) × ((g y).parent ≡ Some n))
  back_of here [] l c h t = absurd (false≢true t)
  back_of here (x ∷ xs) l c h t = by (x == c) refl t (back_in x h.1 (g x).next refl xs l c h.3)
    where
      by : (s : Bool) → s ≡ (x == c) → (s || has c xs) ≡ true
          → (has c xs ≡ true → (y : ℕ) × ((g c).prev ≡ Some y) × ((g y).next ≡ Some c) × ((g y).parent ≡ Some n))
          → (((g c).prev ≡ None) × (here ≡ Some c)) ⊎ ((y : ℕ) × ((g c).prev ≡ Some y) × ((g y).next ≡ Some c) × ((g y).parent ≡ Some n))
      by true e t f =
          let s : x ≡ c = same_of x c e in
          inl (ap (λ k. (g k).prev) (sym s) ∙ h.2, h.0 ∙ ap (λ k. Some k) s)
      by false e t f = inr (f t)

  on_head : (x c : ℕ) (xs : List ℕ) (l : Option ℕ) → x ≡ c → Hangs g n (Some x) (g x).next xs l → On g n l c
  on_head x c [] l s h = inl (ap (λ k. (g k).next) (sym s) ∙ h.0, h.1 ∙ ap (λ k. Some k) s)
  on_head x c (y ∷ ys) l s h = inr (y, ap (λ k. (g k).next) (sym s) ∙ h.0, h.2 ∙ ap (λ k. Some k) s, h.1)

  pub on_of : (b here : Option ℕ) (xs : List ℕ) (l : Option ℕ) (c : ℕ) → Hangs g n b here xs l → has c xs ≡ true → On g n l c
  on_of b here [] l c h t = absurd (false≢true t)
  on_of b here (x ∷ xs) l c h t = by (x == c) refl t (on_of (Some x) (g x).next xs l c h.3)
    where
      by : (s : Bool) → s ≡ (x == c) → (s || has c xs) ≡ true → (has c xs ≡ true → On g n l c) → On g n l c
      by true e t f = on_head x c xs l (same_of x c e) h.3
      by false e t f = f t

  endless : (b here : Option ℕ) (xs : List ℕ) (l : Option ℕ) (c : ℕ) → here ≡ Some c → Hangs g n b here xs l → (g c).next ≢ Some c
  endless b here [] l c e h w = let u : None ≡ Some c = sym h.0 ∙ e in absurd (cc)
  endless b here (x ∷ xs) l c e h w =
      let u : Some x ≡ Some c = sym h.0 ∙ e in
      let s : x ≡ c = cc in
      endless (Some x) (g x).next xs l c (ap (λ k. (g k).next) s ∙ w) h.3 w

  pub no_self : (b here : Option ℕ) (xs : List ℕ) (l : Option ℕ) (c : ℕ) → Hangs g n b here xs l → has c xs ≡ true → (g c).next ≢ Some c
  no_self b here [] l c h t = absurd (false≢true t)
  no_self b here (x ∷ xs) l c h t = by (x == c) refl t (no_self (Some x) (g x).next xs l c h.3)
    where
      by : (s : Bool) → s ≡ (x == c) → (s || has c xs) ≡ true → (has c xs ≡ true → (g c).next ≢ Some c) → (g c).next ≢ Some c
      by true e t f = λ w. endless b here (x ∷ xs) l c (h.0 ∙ ap (λ k. Some k) (same_of x c e)) h w
      by false e t f = f t

pub has_but : (x c : ℕ) (xs : List ℕ) → x ≢ c → has x xs ≡ true → has x (without c xs) ≡ true
has_but x c [] ne h = absurd (false≢true h)
has_but x c (y ∷ ys) ne h = by (y == c) (y == x) refl refl h (has_but x c ys ne)
  where
    by : (s t : Bool) → s ≡ (y == c) → t ≡ (y == x) → (t || has x ys) ≡ true → (has x ys ≡ true → has x (without c ys) ≡ true)
        → has x (if not s then y ∷ without c ys else without c ys) ≡ true
    by true true e f h r = absurd (ne (sym (same_of y x f) ∙ same_of y c e))
    by true false e f h r = r h
    by false true e f h r = rw (sym f) refl
    by false false e f h r = rw (sym f) (r h)

module _ (g g' : ℕ → Link) (c p : ℕ)
    (no_next : is_it (g c).next c ≡ false) (no_prev : is_it (g c).prev c ≡ false)
    (parents : (x : ℕ) → x ≢ c → (g' x).parent ≡ (g x).parent)
    (nexts : (x : ℕ) → (g x).parent ≡ Some p → (g' x).next ≡ cond (is_it (g x).next c) (g c).next (g x).next)
    (prevs : (x : ℕ) → (g x).parent ≡ Some p → (g' x).prev ≡ cond (is_it (g x).prev c) (g c).prev (g x).prev) where
  abbrev skip : Option ℕ → Option ℕ
  skip o = cond (is_it o c) (g c).next o

  abbrev back : Option ℕ → Option ℕ
  back o = cond (is_it o c) (g c).prev o

  pub taken : (b here : Option ℕ) (xs : List ℕ) (l : Option ℕ) → Hangs g p b here xs l → Hangs g' p (back b) (skip here) (without c xs) (back l)
  taken b here [] l h = (ap skip h.0, ap back h.1)
  taken b here (x ∷ xs) l h = by (x == c) refl (taken (Some x) (g x).next xs l h.3)
    where
      by : (s : Bool) → s ≡ (x == c) → Hangs g' p (back (Some x)) (skip (g x).next) (without c xs) (back l)
          → Hangs g' p (back b) (skip here) (if not s then x ∷ without c xs else without c xs) (back l)
      by true e r =
          let s : x ≡ c = same_of x c e in
          let t : is_it (Some x) c ≡ true = rw s (is_same c) in
          let u : back (Some x) ≡ (g c).prev = rw t refl in
          let v : back b ≡ (g c).prev = ap back (sym h.2 ∙ ap (λ k. (g k).prev) s) ∙ rw no_prev refl in
          let w : skip here ≡ (g c).next = ap skip h.0 ∙ rw t refl in
          let z : skip (g x).next ≡ (g c).next = ap (λ k. skip (g k).next) s ∙ rw no_next refl in
          subst (λ o. Hangs g' p (back b) o (without c xs) (back l)) (z ∙ sym w)
          (subst (λ o. Hangs g' p o (skip (g x).next) (without c xs) (back l)) (u ∙ sym v) r)
      by false e r =
          let ne : x ≢ c = other_of x c e in
          let t : is_it (Some x) c ≡ false = is_other c x (λ w. ne (sym w)) in
          let u : back (Some x) ≡ Some x = rw t refl in (
            ap skip h.0 ∙ rw t refl,
            parents x ne ∙ h.1,
            prevs x h.1 ∙ ap back h.2,
            subst (λ o. Hangs g' p (Some x) o (without c xs) (back l)) (sym (nexts x h.1))
                (subst (λ o. Hangs g' p o (skip (g x).next) (without c xs) (back l)) u r),
          )
