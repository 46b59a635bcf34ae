use Rattle.std.proofs.Common.{◌≡◌, ◌+◌, ◌≤◌, length}
use Rattle.sb_text.specs.Columns.{bytes_before}
use Rattle.sb_text.proofs.columns.bytes_before.Given as goal

abbrev pub invariant-loop-byte : goal.invariant-loop-byte
invariant-loop-byte l =
    (l.count + length l.rest ≤ length l.bytes) × (l.count + bytes_before l.unit l.rest ≡ bytes_before l.initial.unit l.bytes)

abbrev pub decreases-loop-byte : goal.decreases-loop-byte
decreases-loop-byte l = length l.rest
