use Rattle.std.proofs.Common.{◌≡◌, ◌-◌, ◌≤◌, [], length, take, drop}
use Rattle.sb_transcript.specs.Cuts.{cut}
use Rattle.sb_transcript.specs.declared.cuts.Place.TheVariants.{Plain}
use Rattle.sb_transcript.proofs.cuts.field_len.Given as goal

abbrev pub invariant-loop-n : goal.invariant-loop-n
invariant-loop-n l =
    (l.n ≤ length l.bytes) × (cut l.separator l.place (take l.n l.bytes) (drop l.n l.bytes) ≡ cut l.separator Plain [] l.bytes)

abbrev pub decreases-loop-n : goal.decreases-loop-n
decreases-loop-n l = length l.bytes - l.n
