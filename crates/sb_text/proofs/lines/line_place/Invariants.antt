use Rattle.std.proofs.Common.{◌≡◌, ◌-◌, ◌≤◌, length, map, drop}
use Rattle.std.specs.Prelude.{slice_get}
use Rattle.sb_text.specs.Lines.{line_numbered, raw_lines, without_cr}
use Rattle.sb_text.proofs.lines.line_place.Given as goal

abbrev pub invariant-loop-line : goal.invariant-loop-line
invariant-loop-line l =
    (length l.rest ≤ length l.text) × (drop (length l.text - length l.rest) l.text ≡ l.rest)
    × (slice_get (map without_cr (raw_lines l.rest)) l.before ≡ line_numbered l.number l.text)

abbrev pub decreases-loop-line : goal.decreases-loop-line
decreases-loop-line l = length l.rest
