use Rattle.std.proofs.Common.{◌≡◌, ◌+◌, ◌*◌, ℕ, take}
use Rattle.sb_cover.specs.Bits.{codes_of}
use Rattle.sb_cover.proofs.bits.next_codes.Given as goal

abbrev pub invariant-loop-place : goal.invariant-loop-place
invariant-loop-place l = (v : ℕ) → l.codes ≡ codes_of l.comparisons (l.left + 1) v → l.next.items ≡ codes_of (take l.place l.comparisons) l.left (v * 2 + l.bit)
