use Rattle.std.proofs.Common.{take}
use Rattle.sb_index.specs.Tables.{AreNeeded}
use Rattle.sb_index.proofs.buckets.needed_by.Given as goal

abbrev pub invariant-loop-rule : goal.invariant-loop-rule
invariant-loop-rule l = AreNeeded (take l.rule-index l.rules) l.tag l.param l.bits
