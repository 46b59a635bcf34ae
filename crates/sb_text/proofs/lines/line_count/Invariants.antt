use Rattle.std.proofs.Common.{◌≡◌, ◌+◌, ◌≤◌, length}
use Rattle.sb_text.specs.Lines.{raw_lines}
use Rattle.sb_text.proofs.lines.line_count.Given as goal

abbrev pub invariant-loop-later : goal.invariant-loop-later
invariant-loop-later l =
    (l.count + length l.rest ≤ length l.bytes) × (l.count + length (raw_lines l.rest) ≡ length (raw_lines l.bytes))

abbrev pub decreases-loop-later : goal.decreases-loop-later
decreases-loop-later l = length l.rest
