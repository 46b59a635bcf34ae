use Rattle.std.proofs.Common.{◌≡◌, ◌≤◌, length}
use Rattle.sb_opcode.specs.Groups.{after_action}
use Rattle.sb_opcode.proofs.walks.pass_rule.Given as goal

abbrev pub invariant-loop-acts : goal.invariant-loop-acts
invariant-loop-acts l = (after_action l.records ≡ after_action l.fn.records) × (length l.records ≤ length l.fn.records)

abbrev pub decreases-loop-acts : goal.decreases-loop-acts
decreases-loop-acts l = length l.records
