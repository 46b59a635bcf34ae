use Rattle.std.proofs.Common.{◌≡◌, ◌<◌, ℕ, []}
use Rattle.std.specs.Int.{bit_at}
use Rattle.std.specs.Prelude.{slice_index_or}
use Rattle.sb_index.specs.Sets.{Has}
use Rattle.sb_index.proofs.buckets.Buckets.narrow_by.Given as goal

abbrev pub invariant-loop-left : goal.invariant-loop-left
invariant-loop-left l =
    ((i : ℕ) → i < 64 → bit_at l.left i ≡ 1 → bit_at l.bits i ≡ 0)
    × ((k : ℕ) → Has l.fn.set k → ((i : ℕ) → i < 64 → bit_at l.bits i ≡ 0 → Has (slice_index_or l.self.sets.items i []) k) → Has l.set k)
    × ((k : ℕ) → Has l.set k → Has l.fn.set k)
    × ((k : ℕ) (i : ℕ) → Has l.set k → i < 64 → bit_at l.self.needed i ≡ 1 → bit_at l.bits i ≡ 0 → bit_at l.left i ≡ 0
    → Has (slice_index_or l.self.sets.items i []) k)

abbrev pub decreases-loop-left : goal.decreases-loop-left
decreases-loop-left l = l.left
