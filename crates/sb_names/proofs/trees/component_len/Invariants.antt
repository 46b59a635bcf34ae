use Rattle.std.proofs.Common.{◌≡◌, ◌≤◌, ◌+◌, ◌-◌, length, drop}
use Rattle.std.specs.Prelude.{not}
use Rattle.std.specs.List.{prefix_len}
use Rattle.sb_names.specs.Keys.{is_backslash}
use Rattle.sb_names.proofs.trees.component_len.Given as goal

abbrev pub invariant-loop-len : goal.invariant-loop-len
invariant-loop-len l =
    (l.len + prefix_len (λ u. not (is_backslash u)) (drop l.len l.units) ≡ prefix_len (λ u. not (is_backslash u)) l.units) × (l.len ≤ length l.units)

abbrev pub decreases-loop-len : goal.decreases-loop-len
decreases-loop-len l = length l.units - l.len
