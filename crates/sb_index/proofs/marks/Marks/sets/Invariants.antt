use Rattle.std.proofs.Common.{◌≡◌, ◌<◌, ℕ, [], length}
use Rattle.std.specs.Prelude.{slice_index_or}
use Rattle.sb_index.specs.Marks.{is_marked}
use Rattle.sb_index.specs.Sets.{has}
use Rattle.sb_index.proofs.marks.Marks.sets.Given as goal

abbrev pub invariant-loop-slot : goal.invariant-loop-slot
invariant-loop-slot l =
    (length l.sets.items ≡ l.slot)
    × ((slot : ℕ) (k : ℕ) → slot < l.slot → has (slice_index_or l.sets.items slot []) k ≡ is_marked l.self slot k)
