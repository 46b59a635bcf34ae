use Rattle.std.proofs.Common.{◌≡◌, false, length}
use Rattle.sb_opcode.specs.Walking.{rule_walk, standing_of, is_failed, Between}
use Rattle.sb_opcode.proofs.walks.walk_rule.Given as goal

abbrev pub invariant-loop-opcode : goal.invariant-loop-opcode
invariant-loop-opcode l =
    (rule_walk l.args (standing_of l.state) l.records ≡ rule_walk l.args Between l.fn.records) × (is_failed (standing_of l.state) ≡ false)

abbrev pub decreases-loop-opcode : goal.decreases-loop-opcode
decreases-loop-opcode l = length l.records
