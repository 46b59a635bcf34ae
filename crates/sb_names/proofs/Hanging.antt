-- A node that is added is hung in its directory.
use Rattle.std.proofs.Common.{◌≡◌, ◌≢◌, ◌<◌, ℕ, sym, ◌∙◌, ap, subst, length, if◌then◌else◌}
use Rattle.std.proofs.lemmas.Bool.{false≢true}
use Rattle.std.specs.Prelude.{Option, Some, None, is_some}
use Rattle.sb_arena.specs.Forests.{HasLiveLinks, IsLive, IsSound, node_number, parent_of as node_parent, value_at, with_node}
use Rattle.sb_arena.specs.Laws.{AddsLeaveParents, AddsSetValues, LinksSetParents, NumbersAreFree}
use Rattle.sb_names.specs.Nodes.{Nodes, IsApart, IsChanged, IsThere, hung}
use Rattle.sb_names.specs.declared.trees.NameNode.{NameNode}
use Rattle.sb_names.proofs.Changes.{apart_new, linked_changes, is_same, is_other}
use Rattle.sb_names.proofs.NodeLemmas.{live_below}

-- a node that is hung in a directory is there
pub hung_changes : LinksSetParents NameNode → (f f1 : Nodes) (a : ℕ) (v : Option NameNode) (d : Option ℕ) → IsChanged f f1 a v None
    → length f1.rows ≡ length f1.values → IsLive f1 a → IsThere f1 d → IsChanged f (hung f1 a d) a v d
hung_changes links f f1 a v None changed even live there = changed
hung_changes links f f1 a v (Some p) changed even live there =
    linked_changes links f f1 a p v changed (in_rows a live) (in_rows p there)
  where
    in_rows : (n : ℕ) → IsLive f1 n → n < length f1.rows
    in_rows n l = subst (λ k. n < k) (sym even) (live_below f1 n l)

module _ (leaves : AddsLeaveParents NameNode) (sets : AddsSetValues NameNode) (frees : NumbersAreFree NameNode) (f : Nodes) (w : NameNode)
    (sound : IsSound f) (even : length f.rows ≡ length f.values) (live_links : HasLiveLinks f) where
  pub added_live : IsLive (with_node f w) (node_number f)
  added_live =
      ap is_some (sets f w (node_number f) sound even ∙ ap (λ b. if b then Some w else value_at f (node_number f)) (is_same (node_number f)))

  pub added_root : node_parent (with_node f w) (node_number f) ≡ None
  added_root = leaves f w (node_number f) ∙ (frees f sound even).1

  pub added_there : (d : Option ℕ) → IsThere f d → IsThere (with_node f w) d
  added_there None there = tt
  added_there (Some p) there =
      let ne : p ≢ node_number f = λ same. absurd (false≢true (sym (ap is_some (frees f sound even).0) ∙ subst (λ m. IsLive f m) same there)) in
      ap is_some (sets f w p sound even ∙ ap (λ b. if b then Some w else value_at f p) (is_other p (node_number f) ne)) ∙ there

  pub added_apart : (d : Option ℕ) → IsThere f d → IsApart (with_node f w) (node_number f) d
  added_apart None there = tt
  added_apart (Some p) there = apart_new leaves frees f w p sound even live_links there
