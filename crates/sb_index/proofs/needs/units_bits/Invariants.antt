use Rattle.std.proofs.Common.{◌≡◌, ℕ, take}
use Rattle.std.specs.Int.{bit_at}
use Rattle.std.specs.List.{list_any}
use Rattle.std.specs.Prelude.{if◌then◌else◌}
use Rattle.sb_index.specs.Questions.{is_in_bucket}
use Rattle.sb_index.proofs.needs.units_bits.Given as goal

abbrev pub invariant-loop-unit : goal.invariant-loop-unit
invariant-loop-unit l = (bucket : ℕ) → bit_at l.bits bucket ≡ (if list_any (is_in_bucket bucket) (take l.unit-index l.units) then 1 else 0)
