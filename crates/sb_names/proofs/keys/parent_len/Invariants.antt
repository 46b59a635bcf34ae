use Rattle.std.proofs.Common.{◌≡◌, ◌+◌, length, if◌then◌else◌}
use Rattle.std.specs.List.{list_any}
use Rattle.sb_names.specs.Keys.{parent_of, is_backslash}
use Rattle.sb_names.proofs.keys.parent_len.Given as goal

-- the last `\` is the one of what is left, if that has one, and else the last so far
abbrev pub invariant-loop-unit : goal.invariant-loop-unit
invariant-loop-unit l =
    (length (parent_of l.name) ≡ (if list_any is_backslash l.rest then l.at + length (parent_of l.rest) else l.last))
    × (l.at + length l.rest ≡ length l.name)

abbrev pub decreases-loop-unit : goal.decreases-loop-unit
decreases-loop-unit l = length l.rest
