use Rattle.std.proofs.Common.{◌≡◌, ◌+◌, ◌++◌, length}
use Rattle.sb_dup.specs.MoveLines.{move_lines}
use Rattle.sb_dup.proofs.move_lines.put_move_lines.Given as goal

abbrev pub invariant-loop-m : goal.invariant-loop-m
invariant-loop-m l =
    (l.lines.items ++ move_lines l.script l.n l.rest ≡ l.initial.lines.items ++ move_lines l.script 0 l.moves)
    × (l.n + length l.rest ≡ length l.moves)

abbrev pub decreases-loop-m : goal.decreases-loop-m
decreases-loop-m l = length l.rest
