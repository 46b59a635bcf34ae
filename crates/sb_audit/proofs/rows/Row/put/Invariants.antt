use Rattle.std.proofs.Common.{◌≡◌, ◌≤◌, ◌-◌, ℕ, length, get_or}
use Rattle.std.specs.Prelude.{None}
use Rattle.sb_audit.proofs.rows.Row.put.Given as goal

-- places without a reply follow
abbrev pub invariant-loop-len : goal.invariant-loop-len
invariant-loop-len l = (l.len ≡ length l.self-inside.slots.items) × (l.len ≤ l.place) × ((q : ℕ) → get_or l.self-inside.slots.items q None ≡ get_or l.fn.self q None)

abbrev pub decreases-loop-len : goal.decreases-loop-len
decreases-loop-len l = l.place - l.len
