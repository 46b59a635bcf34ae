use Rattle.std.proofs.Common.{◌≡◌, ◌≤◌, ◌-◌, ℕ, [], length, get_or}
use Rattle.sb_audit.proofs.rows.Rows.new.Given as goal

-- each row that was made is empty
abbrev pub invariant-loop-made : goal.invariant-loop-made
invariant-loop-made l = (length l.rows.items ≡ l.made) × (l.made ≤ 32) × ((i : ℕ) → length (get_or l.rows.items i []) ≡ 0)

abbrev pub decreases-loop-made : goal.decreases-loop-made
decreases-loop-made l = 32 - l.made
