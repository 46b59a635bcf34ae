use Rattle.std.proofs.Common.{◌≡◌, ℕ, false, [], length}
use Rattle.std.specs.Prelude.{slice_index_or}
use Rattle.sb_index.specs.Sets.{has}
use Rattle.sb_index.proofs.marks.empty_sets.Given as goal

abbrev pub invariant-loop : goal.invariant-loop
invariant-loop l = (length l.sets.items ≡ l.counter) × ((slot : ℕ) (k : ℕ) → has (slice_index_or l.sets.items slot []) k ≡ false)
