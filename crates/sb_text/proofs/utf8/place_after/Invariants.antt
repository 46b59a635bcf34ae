use Rattle.std.proofs.Common.{◌≡◌, ◌+◌, ◌≤◌, drop}
use Rattle.sb_text.specs.Utf8.{first_place, place_after}
use Rattle.sb_text.proofs.utf8.place_after.Given as goal

abbrev pub invariant-loop-byte : goal.invariant-loop-byte
invariant-loop-byte l =
    (l.line ≤ 1 + l.byte-index) × (l.column ≤ 1 + l.byte-index)
    × (place_after (record { line = l.line; column = l.column }) (drop l.byte-index l.front) ≡ place_after first_place l.front)
