use Rattle.std.proofs.Common.{◌≡◌, ◌≤◌, length, take}
use Rattle.sb_index.specs.Tables.{rules_for}
use Rattle.sb_index.proofs.features.count_for.Given as goal

abbrev pub invariant-loop-rule : goal.invariant-loop-rule
invariant-loop-rule l = (l.count ≡ length (rules_for l.tag (take l.rule-index l.rules))) × (l.count ≤ l.rule-index)
