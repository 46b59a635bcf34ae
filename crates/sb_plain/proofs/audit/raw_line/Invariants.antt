use Rattle.std.proofs.Common.{◌≡◌, length, map}
use Rattle.std.specs.Prelude.{slice_get}
use Rattle.sb_plain.specs.Audit.{raw_line}
use Rattle.sb_plain.proofs.audit.raw_line.Given as goal

abbrev pub invariant-loop-line : goal.invariant-loop-line
invariant-loop-line l = slice_get (map (λ line. line.bytes) l.lines) l.before ≡ raw_line l.number l.text

abbrev pub decreases-loop-line : goal.decreases-loop-line
decreases-loop-line l = length l.lines
