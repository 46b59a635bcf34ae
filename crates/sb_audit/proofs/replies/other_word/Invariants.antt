use Rattle.std.proofs.Common.{◌≡◌, ◌+◌, length}
use Rattle.sb_audit.specs.Dues.{other_word}
use Rattle.sb_audit.proofs.replies.other_word.Given as goal

abbrev pub invariant-loop-first : goal.invariant-loop-first
invariant-loop-first l =
    (l.at + length l.left ≡ length l.shown) × (other_word l.whole l.at l.left l.right ≡ other_word l.whole 0 l.shown l.wanted)

abbrev pub decreases-loop-first : goal.decreases-loop-first
decreases-loop-first l = length l.left
