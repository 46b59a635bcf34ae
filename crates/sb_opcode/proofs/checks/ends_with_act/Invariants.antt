use Rattle.std.proofs.Common.{◌≡◌, length}
use Rattle.sb_opcode.specs.Faults.{ends_with_act}
use Rattle.sb_opcode.proofs.CheckLemmas.{ends_after}
use Rattle.sb_opcode.proofs.checks.ends_with_act.Given as goal

abbrev pub invariant-loop-record : goal.invariant-loop-record
invariant-loop-record l = ends_after l.ends l.records ≡ ends_with_act l.initial.records

abbrev pub decreases-loop-record : goal.decreases-loop-record
decreases-loop-record l = length l.records
