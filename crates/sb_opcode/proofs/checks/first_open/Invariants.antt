use Rattle.std.specs.Prelude.{option_map, position, None}
use Rattle.std.proofs.Common.{◌≡◌, ◌+◌, ◌<◌, ◌^◌, length}
use Rattle.sb_opcode.specs.Faults.{is_open, with_before}
use Rattle.sb_opcode.specs.Records.{opcode_of}
use Rattle.sb_opcode.proofs.checks.first_open.Given as goal

abbrev pub invariant-loop-record : goal.invariant-loop-record
invariant-loop-record l =
    (option_map (λ n. n + l.at) (position is_open (with_before (option_map opcode_of l.before) l.records))
    ≡ position is_open (with_before None l.initial.records))
    × (l.at + length l.records < 2 ^ 32)

abbrev pub decreases-loop-record : goal.decreases-loop-record
decreases-loop-record l = length l.records
