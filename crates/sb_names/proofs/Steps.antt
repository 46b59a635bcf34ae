-- What the calls on an arena change: one node alone.
use Rattle.std.proofs.Common.{◌≡◌, ◌<◌, ◌==◌, ℕ, Bool, true, false, refl, sym, ◌∙◌, ap, subst, zero, suc, length, if◌then◌else◌}
use Rattle.std.specs.Prelude.{Option, Some, None, is_some}
use Rattle.sb_arena.specs.Forests.{HasLiveLinks, IsAbove, IsLive, ancestor, parent_of as node_parent, value_at, with_value, without_parent}
use Rattle.sb_arena.specs.Laws.{SetsSetValues, UnlinksClearParents}
use Rattle.sb_names.specs.Nodes.{Nodes, IsApart, IsChanged, IsThere}
use Rattle.sb_names.specs.declared.trees.NameNode.{NameNode}
use Rattle.sb_names.proofs.Changes.{is_same, same_of}
use Rattle.sb_names.proofs.NodeLemmas.{live_below}

-- a parent has a row
pub parent_in_rows : (f : Nodes) → HasLiveLinks f → length f.rows ≡ length f.values → (c p : ℕ) → node_parent f c ≡ Some p → p < length f.rows
parent_in_rows f live_links even c p e = subst (λ k. p < k) (sym even) (live_below f p (live_links c p e).1)

pub live_in_rows : (f : Nodes) → length f.rows ≡ length f.values → (c : ℕ) → IsLive f c → c < length f.rows
live_in_rows f even c live = subst (λ k. c < k) (sym even) (live_below f c live)

module _ (unlinks : UnlinksClearParents NameNode) (f : Nodes) (live_links : HasLiveLinks f) (even : length f.rows ≡ length f.values)
    (c : ℕ) (live : IsLive f c) where
  parent_after : (n : ℕ) → node_parent (without_parent f c) n ≡ (if n == c then None else node_parent f n)
  parent_after n = unlinks f c n (live_in_rows f even c live) (parent_in_rows f live_links even c)

  -- a node that is unlinked has no parent
  pub unlinked_root : node_parent (without_parent f c) c ≡ None
  unlinked_root = parent_after c ∙ ap (λ b. if b then None else node_parent f c) (is_same c)

  -- a node that is unlinked and set is all that changed
  pub reset_changes : SetsSetValues NameNode → (w : NameNode) → IsChanged f (with_value (without_parent f c) c w) c (Some w) None
  reset_changes sets w = record {
    values = λ n. sets (without_parent f c) c n w live;
    parents = λ n. parent_after n;
  }

  -- a node that is unlinked is above those that it was above before
  above_before : (k p : ℕ) → ancestor (without_parent f c).rows k (Some p) ≡ Some c → IsAbove f c p
  above_before zero p e = (0, e)
  above_before (suc k) p e = by (p == c) refl (parent_after p) (above_before k)
    where
      higher : (o : Option ℕ) → node_parent f p ≡ o → ancestor (without_parent f c).rows k o ≡ Some c
          → ((q : ℕ) → ancestor (without_parent f c).rows k (Some q) ≡ Some c → IsAbove f c q) → IsAbove f c p
      higher None s h again = absurd (cc)
      higher (Some q) s h again =
          let top = again q h in
          (suc top.0, ap (ancestor f.rows top.0) s ∙ top.1)

      by : (b : Bool) → b ≡ (p == c) → node_parent (without_parent f c) p ≡ (if b then None else node_parent f p)
          → ((q : ℕ) → ancestor (without_parent f c).rows k (Some q) ≡ Some c → IsAbove f c q) → IsAbove f c p
      by true t s again = (0, ap (λ x. Some x) (same_of p c t))
      by false t s again = higher (node_parent f p) refl (sym (ap (ancestor (without_parent f c).rows k) s) ∙ e) again

  pub still_apart : (p : ℕ) → (IsAbove f c p → ⊥) → (w : NameNode) → IsAbove (with_value (without_parent f c) c w) c p → ⊥
  still_apart p apart w above = apart (above_before above.0 p above.1)

  -- nor below it after it is set
  pub reset_apart : (d : Option ℕ) → IsApart f c d → (w : NameNode) → IsApart (with_value (without_parent f c) c w) c d
  reset_apart None apart w = tt
  reset_apart (Some p) apart w = still_apart p apart w

  -- a node that is set is live
  pub reset_live : SetsSetValues NameNode → (w : NameNode) → IsLive (with_value (without_parent f c) c w) c
  reset_live sets w = ap is_some (sets (without_parent f c) c c w live ∙ ap (λ b. if b then Some w else value_at f c) (is_same c))

  -- and a directory that was there is there still
  pub reset_there : SetsSetValues NameNode → (w : NameNode) (d : Option ℕ) → IsThere f d → IsThere (with_value (without_parent f c) c w) d
  reset_there sets w None there = tt
  reset_there sets w (Some p) there = by (p == c) (sets (without_parent f c) c p w live)
    where
      by : (b : Bool) → value_at (with_value (without_parent f c) c w) p ≡ (if b then Some w else value_at f p) → IsLive (with_value (without_parent f c) c w) p
      by true e = ap is_some e
      by false e = ap is_some e ∙ there
