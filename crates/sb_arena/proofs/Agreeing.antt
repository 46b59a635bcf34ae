-- Parents and children agree, are live, and are linked once.
use Rattle.std.proofs.Common.{◌≡◌, ℕ, ◌==◌, ◌≤◌, Bool, true, false, refl, sym, ◌∙◌, ap, subst, arith, List, [], ◌∷◌, length}
use Rattle.std.proofs.lemmas.Bool.Decides.{nat_tests}
use Rattle.std.proofs.lemmas.List.{get_or_past}
use Rattle.std.proofs.lemmas.Bool.{false≢true}
use Rattle.std.specs.Prelude.{Option, None, Some, ◌||◌, is_some, nat_le}
use Rattle.sb_arena.specs.declared.links.Link.{Link}
use Rattle.sb_arena.specs.Forests.{Forest, Agrees, has, row_at, bare_row, value_at, Single, IsLive, IsSound, HasLiveLinks, HasSingleChildren}
use Rattle.sb_arena.proofs.ChainLemmas.{once}
use Rattle.sb_arena.specs.Links.{at, kids, rows_of, Hangs, IsTied}
use Rattle.sb_arena.proofs.LinkLaws.{same_of}
use Rattle.sb_arena.proofs.Readers.{row_read_any}

hang_parent : (g : ℕ → Link) (n : ℕ) (b here : Option ℕ) (xs : List ℕ) (l : Option ℕ) (c : ℕ) → Hangs g n b here xs l → has c xs ≡ true → (g c).parent ≡ Some n
hang_parent g n b here [] l c h t = absurd (false≢true t)
hang_parent g n b here (x ∷ xs) l c h t = by (x == c) refl t (hang_parent g n (Some x) (g x).next xs l c h.3)
  where
    by : (s : Bool) → s ≡ (x == c) → (s || has c xs) ≡ true → (has c xs ≡ true → (g c).parent ≡ Some n) → (g c).parent ≡ Some n
    by true e t f = ap (λ k. (g k).parent) (sym (same_of x c e)) ∙ h.1
    by false e t f = f t

pub agrees : {T : Type 0} (links : List Link) (values : List (Option T)) (free : List ℕ) → IsTied links → Agrees (record { rows = rows_of links; values = values; free = free })
agrees links values free tied c p = (
  λ h. ap (λ r. r.parent) (row_read_any links c)
      ∙ hang_parent (at links) p None (at links p).first (kids links p) (at links p).last c (tied.hangs p) (ap (λ r. has c r.children) (sym (row_read_any links p)) ∙ h),
  λ h. ap (λ r. has c r.children) (row_read_any links p) ∙ tied.member c p (ap (λ r. r.parent) (sym (row_read_any links c)) ∙ h),
)

-- no node has a child twice
pub single_children : {T : Type 0} (links : List Link) (values : List (Option T)) (free : List ℕ) → IsTied links
    → HasSingleChildren (record { rows = rows_of links; values = values; free = free })
single_children links values free tied p =
    subst (λ r. Single r.children) (sym (row_read_any links p))
    (once (at links) p None (at links p).first (kids links p) (at links p).last refl (tied.hangs p))

module _ {T : Type 0} (f : Forest T) (sound : IsSound f) (long : length f.rows ≡ length f.values) where
  -- a node with a parent or a child is live
  live_of : (n : ℕ) → (row_at f.rows n ≡ bare_row → ⊥) → IsLive f n
  live_of n linked = by (value_at f n) refl
    where
      bare : (b : Bool) → b ≡ nat_le (length f.values) n → value_at f n ≡ None → row_at f.rows n ≡ bare_row
      bare true e _ =
          let s : length f.values ≤ n = grind (arith, nat_tests, e) in
          let t : length f.rows ≤ n = rw long s in
          get_or_past f.rows n bare_row t
      bare false e v = (sound.dead n (sound.all n (grind (arith, nat_tests, e)) v)).2

      by : (o : Option T) → value_at f n ≡ o → IsLive f n
      by (Some v) e = ap is_some e
      by None e = absurd (linked (bare (nat_le (length f.values) n) refl e))

  pub live_links : Agrees f → HasLiveLinks f
  live_links agree c p e = (
    live_of c (λ h. false≢true (ap (λ r. is_some r.parent) (sym h) ∙ ap is_some e)),
    live_of p (λ h. false≢true (ap (λ r. has c r.children) (sym h) ∙ (agree c p).1 e)),
  )
