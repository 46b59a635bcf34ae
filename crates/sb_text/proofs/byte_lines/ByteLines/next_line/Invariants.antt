use Rattle.std.proofs.Common.{◌≡◌, ◌+◌, ◌<◌, ◌^◌, length}
use Rattle.sb_text.specs.Lines.{lines_from, raw_lines}
use Rattle.sb_text.proofs.byte_lines.ByteLines.next_line.Given as goal

abbrev pub invariant-loop-line : goal.invariant-loop-line
invariant-loop-line l =
    (l.self-inside.passed + length l.self-inside.rest.now + 1 < 2 ^ 32) × (lines_from (l.self-inside.passed + 1) (raw_lines l.self-inside.rest.now) ≡ lines_from (l.initial.self-inside.passed + 1) (raw_lines l.initial.self-inside.rest.now))

abbrev pub decreases-loop-line : goal.decreases-loop-line
decreases-loop-line l = length l.self-inside.rest.now
