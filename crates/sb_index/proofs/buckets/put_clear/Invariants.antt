use Rattle.std.proofs.Common.{◌≡◌, ◌&&◌, ◌||◌, ℕ, [], eqb, ltb, length}
use Rattle.std.specs.Int.{bit_at}
use Rattle.std.specs.Prelude.{slice_index_or}
use Rattle.sb_index.specs.Sets.{has}
use Rattle.sb_index.proofs.buckets.put_clear.Given as goal

abbrev pub invariant-loop-bucket : goal.invariant-loop-bucket
invariant-loop-bucket l =
    (length l.sets.items ≡ 64)
    × ((s : ℕ) (k : ℕ) → has (slice_index_or l.sets.items s []) k
    ≡ (has (slice_index_or l.fn.sets.items s []) k || ((eqb k l.rule && ltb s l.bucket) && eqb (bit_at l.bits s) 0)))
