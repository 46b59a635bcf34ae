use Rattle.std.proofs.Common.{◌≡◌, ◌*◌, ◌≤◌, length}
use Rattle.sb_core.specs.Words.{has_ready, is_ready_below}
use Rattle.sb_core.proofs.words.TargetWords.has_ready.Given as goal

-- one of the channels that are left is ready exactly if one of all is
abbrev pub invariant-loop-left : goal.invariant-loop-left
invariant-loop-left l = (is_ready_below l.left l.self ≡ has_ready l.self) × (l.left * 65 ≤ length l.self)

abbrev pub decreases-loop-left : goal.decreases-loop-left
decreases-loop-left l = l.left
