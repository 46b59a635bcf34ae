-- A node of an arena is unlinked.
use Rattle.std.proofs.Common.{◌≡◌, ℕ, ◌<◌, refl, sym, ◌∙◌, ap, List, length}
use Rattle.std.specs.Prelude.{Option, None, Some, IfSome}
use Rattle.sb_arena.specs.declared.links.Link.{Link}
use Rattle.sb_arena.specs.Forests.{Forest, IsLive, parent_of, without_parent, rows_without, rows_freed}
use Rattle.sb_arena.specs.Links.{at, unlinked, rows_of, IsTied}
use Rattle.sb_arena.proofs.LinkTies.{row_read}
use Rattle.sb_arena.proofs.Readers.{live_in}
use Rattle.sb_arena.proofs.UnlinkTies.{in_p, in_prev, in_next, long, tied_unlinked, rows_unlinked}

each : (o : Option ℕ) (k : ℕ) → ((b : ℕ) → o ≡ Some b → b < k) → IfSome o (λ b. b < k)
each None k i = tt
each (Some b) k i = i b refl

module _ {T : Type 0} (links : List Link) (values : List (Option T)) (free : List ℕ) (f : Forest T) (e : record { rows = rows_of links; values = values; free = free } ≡ f)
    (sound : (length links ≡ length values) × IsTied links) (c : ℕ) (live : IsLive f c) where
  in_c : c < length links
  in_c = live_in links values free f e sound c live

  parent_is : (at links c).parent ≡ parent_of f c
  parent_is = ap (λ r. r.parent) (sym (row_read links c in_c)) ∙ ap (λ f. parent_of f c) e

  -- nothing is to be done if it hangs nowhere
  pub unlink_none : (at links c).parent ≡ None → f ≡ without_parent f c
  unlink_none h = by (parent_of f c) (sym parent_is ∙ h)
    where
      by : (o : Option ℕ) → o ≡ None → f ≡ record f { rows = rows_freed f.rows c o }
      by None w = refl
      by (Some p) w = absurd (cc)

  module _ (p : ℕ) (h : (at links c).parent ≡ Some p) where
    pub unlink_parent : p < length links
    unlink_parent = in_p links c p in_c sound.1 h

    pub unlink_prev : IfSome (at links c).prev (λ b. b < length links)
    unlink_prev = each (at links c).prev (length links) (in_prev links c p in_c sound.1 h)

    pub unlink_next : IfSome (at links c).next (λ b. b < length links)
    unlink_next = each (at links c).next (length links) (in_next links c p in_c sound.1 h)

    pub unlink_sound : (length (unlinked links c p) ≡ length values) × IsTied (unlinked links c p)
    unlink_sound =
        (long links c p in_c unlink_parent (in_prev links c p in_c sound.1 h) (in_next links c p in_c sound.1 h) ∙ sound.0, tied_unlinked links c p in_c sound.1 h)

    pub unlink_whole : record { rows = rows_of (unlinked links c p); values = values; free = free } ≡ without_parent f c
    unlink_whole =
        (λ i. record { rows = rows_unlinked links c p in_c sound.1 h i; values = values; free = free })
        ∙ (λ i. record { rows = rows_without (e i).rows c p; values = (e i).values; free = (e i).free })
        ∙ (λ i. record f { rows = rows_freed f.rows c ((sym h ∙ parent_is) i) })
