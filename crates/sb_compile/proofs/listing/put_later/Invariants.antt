use Rattle.std.proofs.Common.{◌≡◌, ◌+◌, ◌≤◌, ◌^◌, ◌++◌, length}
use Rattle.sb_compile.specs.Listing.{opcode_lines}
use Rattle.sb_compile.proofs.listing.put_later.Given as goal

abbrev pub invariant-loop-record : goal.invariant-loop-record
invariant-loop-record l =
    (l.out.items ++ opcode_lines l.at l.records ≡ l.fn.out.items ++ opcode_lines 1 l.fn.records)
    × (l.at + length l.records ≤ 2 ^ 32)

abbrev pub decreases-loop-record : goal.decreases-loop-record
decreases-loop-record l = length l.records
