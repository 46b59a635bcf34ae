-- The nodes of an arena stay below roots.
use Rattle.std.proofs.Common.{◌≡◌, ℕ, ◌<◌, sym, ◌∙◌, ap, subst, List, [], ◌∷◌, ◌++◌, length}
use Rattle.std.specs.Prelude.{Option, None, Some}
use Rattle.std.proofs.lemmas.List.{length-map}
use Rattle.sb_arena.specs.declared.links.Link.{Link}
use Rattle.sb_arena.specs.Forests.{ancestor, IsRooted, Forest, IsAbove, IsLive, parent_of}
use Rattle.sb_arena.specs.Links.{at, no_link, rows_of, row_of, linked, unlinked as unlinked_links, IsTied}
use Rattle.sb_arena.proofs.LinkTies.{rows_linked}
use Rattle.sb_arena.proofs.Readers.{live_in, unlinked, rows_added, parent_present}
use Rattle.sb_arena.proofs.UnlinkTies.{rows_unlinked}
use Rattle.sb_arena.proofs.Roots.{rooted_hung, rooted_unhung, rooted_added}

module _ {T : Type 0} (links : List Link) (values : List (Option T)) (free : List ℕ) (f : Forest T) (e : record { rows = rows_of links; values = values; free = free } ≡ f)
    (tied : (length links ≡ length values) × IsTied links) (rooted : IsRooted (rows_of links)) where
  here : (n : ℕ) → n < length links → n < length (rows_of links)
  here n h = rw (length-map links (row_of links)) h

  pub link_rooted : (c p : ℕ) → IsLive f c → IsLive f p → parent_of f c ≡ None → (IsAbove f c p → ⊥) → IsRooted (rows_of (linked links c p))
  link_rooted c p live_c live_p h apart =
      let in_c = live_in links values free f e tied c live_c in
      let in_p = live_in links values free f e tied p live_p in
      subst (λ rs. IsRooted rs) (sym (rows_linked links c p in_c in_p tied.1 (unlinked links values free f e tied c p live_c live_p h)))
      (rooted_hung (rows_of links) rooted c p (here c in_c) (here p in_p) (λ k w. apart (k, ap (λ f. ancestor f.rows k (Some p)) (sym e) ∙ w)))

  pub unlink_rooted : (c : ℕ) → IsLive f c → (p : ℕ) → (at links c).parent ≡ Some p → IsRooted (rows_of (unlinked_links links c p))
  unlink_rooted c live_c p h =
      let in_c = live_in links values free f e tied c live_c in
      subst (λ rs. IsRooted rs) (sym (rows_unlinked links c p in_c tied.1 h))
      (rooted_unhung (rows_of links) rooted c p (here c in_c) (here p (parent_present links c p tied.1 h)))

  pub added_rooted : IsRooted (rows_of (links ++ no_link ∷ []))
  added_rooted = subst (λ rs. IsRooted rs) (sym (rows_added links tied.1)) (rooted_added (rows_of links) rooted)
