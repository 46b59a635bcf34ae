use Rattle.std.proofs.Common.{◌-◌, ◌^◌, length}
use Rattle.sb_names.proofs.FreeNumbers.{IsReached}
use Rattle.sb_names.proofs.maps.free_number.Given as goal

abbrev pub decreases-loop-number : goal.decreases-loop-number
decreases-loop-number g l = 2 ^ 64 - l.number

abbrev pub invariant-loop-number : goal.invariant-loop-number
invariant-loop-number g l = IsReached l.hash (length l.index.entries) l.number l.index.entries
