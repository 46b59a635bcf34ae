-- Nodes that are linked below one, before and after a node is linked last or is unlinked.
use Rattle.std.proofs.Common.{◌≡◌, ◌≢◌, ℕ, refl, sym, ◌∙◌, ap, subst, List, [], ◌∷◌, ◌++◌}
use Rattle.std.specs.Prelude.{Option, None, Some}
use Rattle.sb_arena.specs.declared.links.Link.{Link}
use Rattle.sb_arena.specs.Links.{Hangs}

abbrev pub fill : ℕ → Option ℕ → Option ℕ
fill c None = Some c
fill c (Some x) = Some x

-- the last has none after it, and hangs there
pub ends : (g : ℕ → Link) (n : ℕ) (b here : Option ℕ) (y : ℕ) (ys : List ℕ) (l : Option ℕ) (z : ℕ)
    → Hangs g n b here (y ∷ ys) l → l ≡ Some z → ((g z).next ≡ None) × ((g z).parent ≡ Some n)
ends g n b here y [] l z h e =
    let s : Some y ≡ Some z = sym h.3.1 ∙ e in
    let w : y ≡ z = cc in
    (ap (λ u. (g u).next) (sym w) ∙ h.3.0, ap (λ u. (g u).parent) (sym w) ∙ h.1)
ends g n b here y (x ∷ xs) l z h e = ends g n (Some y) (g y).next x xs l z h.3 e

-- a node that another's list names last hangs there
pub last_hangs : (g : ℕ → Link) (n : ℕ) (here : Option ℕ) (ys : List ℕ) (l : Option ℕ) (z : ℕ)
    → Hangs g n None here ys l → l ≡ Some z → (g z).parent ≡ Some n
last_hangs g n here [] l z h e = absurd (cc)
last_hangs g n here (y ∷ ys) l z h e = (ends g n None here y ys l z h e).1

-- what is linked alike
pub alike : (g g' : ℕ → Link) (n : ℕ)
    → ((x : ℕ) → (g x).parent ≡ Some n → ((g' x).parent ≡ (g x).parent) × ((g' x).prev ≡ (g x).prev) × ((g' x).next ≡ (g x).next))
    → (b here : Option ℕ) (xs : List ℕ) (l : Option ℕ) → Hangs g n b here xs l → Hangs g' n b here xs l
alike g g' n same b here [] l h = h
alike g g' n same b here (x ∷ xs) l h =
    let s = same x h.1 in
    (h.0, s.0 ∙ h.1, s.1 ∙ h.2, subst (λ o. Hangs g' n (Some x) o xs l) (sym s.2) (alike g g' n same (Some x) (g x).next xs l h.3))

module _ (g g' : ℕ → Link) (c p : ℕ) (l : Option ℕ)
    (unlinked : (g c).parent ≡ None)
    (new_parent : (g' c).parent ≡ Some p) (new_prev : (g' c).prev ≡ l) (new_next : (g' c).next ≡ None)
    (parents : (x : ℕ) → x ≢ c → (g' x).parent ≡ (g x).parent)
    (prevs : (x : ℕ) → x ≢ c → (g' x).prev ≡ (g x).prev)
    (next_last : (x : ℕ) → x ≢ c → l ≡ Some x → (g' x).next ≡ Some c)
    (nexts : (x : ℕ) → x ≢ c → l ≢ Some x → (g' x).next ≡ (g x).next) where
  apart : (x q : ℕ) → (g x).parent ≡ Some q → x ≢ c
  apart x q h e =
      let w : None ≡ Some q = sym unlinked ∙ ap (λ u. (g u).parent) (sym e) ∙ h in
      absurd (cc)

  filled : (x : ℕ) (xs : List ℕ) → x ≢ c → Hangs g p (Some x) (g x).next xs l → (g' x).next ≡ fill c (g x).next
  filled x [] ne h = next_last x ne h.1 ∙ sym (ap (fill c) h.0)
  filled x (y ∷ ys) ne h =
      nexts x ne (λ e.
      let got = (ends g p (Some x) (g x).next y ys l x h e).0 in
      let w : Some y ≡ None = sym h.0 ∙ got in
      absurd (cc)) ∙ h.0 ∙ sym (ap (fill c) h.0)

  -- one more is linked after the last
  pub hung_last : (b here : Option ℕ) (xs : List ℕ) → Hangs g p b here xs l → Hangs g' p b (fill c here) (xs ++ c ∷ []) (Some c)
  hung_last b here [] h = (ap (fill c) h.0, new_parent, new_prev ∙ h.1, (new_next, refl))
  hung_last b here (x ∷ xs) h =
      let ne = apart x p h.1 in (
        ap (fill c) h.0,
        parents x ne ∙ h.1,
        prevs x ne ∙ h.2,
        subst (λ o. Hangs g' p (Some x) o (xs ++ c ∷ []) (Some c)) (sym (filled x xs ne h.3)) (hung_last (Some x) (g x).next xs h.3),
      )

  -- and elsewhere all is as it was
  pub hung_others : (q : ℕ) → q ≢ p → ((x : ℕ) → l ≡ Some x → (g x).parent ≡ Some p)
      → (b here : Option ℕ) (xs : List ℕ) (m : Option ℕ) → Hangs g q b here xs m → Hangs g' q b here xs m
  hung_others q other last = alike g g' q (λ x h.
      let ne = apart x q h in
      (parents x ne, prevs x ne, nexts x ne (λ e. other (same_some (sym h ∙ last x e)))))
    where
      same_some : {a b : ℕ} → Some a ≡ Some b → a ≡ b
      same_some e = cc

  pub hung_apart : (x q : ℕ) → (g x).parent ≡ Some q → x ≢ c
  hung_apart = apart
