use Rattle.std.proofs.Common.{◌≡◌, ◌<◌, ◌&&◌, ℕ, length, not}
use Rattle.sb_statements.specs.CleanTables.{clean_at, some_writes}
use Rattle.sb_statements.specs.Limits.{most_targets, most_channels}
use Rattle.sb_statements.proofs.clean_tables.CleanTable.note_all.Given as goal

-- what is left clears the channels that are still to be cleared
abbrev pub invariant-loop-first : goal.invariant-loop-first
invariant-loop-first l = (t c : ℕ) → t < most_targets → c < most_channels
    → (clean_at l.self t c && not (some_writes l.rest t c)) ≡ (clean_at l.fn.self t c && not (some_writes l.initial.rest t c))

abbrev pub decreases-loop-first : goal.decreases-loop-first
decreases-loop-first l = length l.rest
