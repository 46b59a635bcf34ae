use Rattle.std.proofs.Common.{◌≡◌, ◌<◌, ℕ, suc, [], length}
use Rattle.std.specs.Prelude.{slice_index_or}
use Rattle.sb_index.specs.Marks.{up_to}
use Rattle.sb_index.specs.Sets.{has}
use Rattle.sb_index.proofs.marks.unions.Given as goal

abbrev pub invariant-loop-one : goal.invariant-loop-one
invariant-loop-one l =
    (length l.all.items ≡ l.one-index)
    × ((k : ℕ) → has l.set k ≡ up_to l.sets l.one-index k)
    × ((slot : ℕ) (k : ℕ) → slot < l.one-index → has (slice_index_or l.all.items slot []) k ≡ up_to l.sets (suc slot) k)
