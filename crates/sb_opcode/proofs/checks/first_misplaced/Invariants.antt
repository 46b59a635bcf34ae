use Rattle.std.specs.Prelude.{option_map, position}
use Rattle.std.proofs.Common.{◌≡◌, ◌+◌, ◌<◌, ◌^◌, length}
use Rattle.sb_opcode.specs.Faults.{is_misplaced}
use Rattle.sb_opcode.proofs.checks.first_misplaced.Given as goal

abbrev pub invariant-loop-record : goal.invariant-loop-record
invariant-loop-record l =
    (option_map (λ n. n + l.at) (position (is_misplaced l.tag) l.records) ≡ position (is_misplaced l.tag) l.initial.records)
    × (l.at + length l.records < 2 ^ 32)

abbrev pub decreases-loop-record : goal.decreases-loop-record
decreases-loop-record l = length l.records
