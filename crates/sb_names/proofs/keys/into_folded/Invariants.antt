use Rattle.std.proofs.Common.{◌≡◌, ◌≤◌, ◌-◌, length}
use Rattle.sb_names.proofs.FoldLemmas.{folded_to}
use Rattle.sb_names.proofs.keys.into_folded.Given as goal

abbrev pub invariant-loop-at : goal.invariant-loop-at
invariant-loop-at l = (l.units.items ≡ folded_to l.at l.initial.units.items) × (l.at ≤ length l.initial.units.items)

abbrev pub decreases-loop-at : goal.decreases-loop-at
decreases-loop-at l = length l.initial.units.items - l.at
