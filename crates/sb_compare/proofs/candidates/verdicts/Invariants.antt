use Rattle.std.specs.List.{filter}
use Rattle.std.proofs.Common.{◌≡◌, map, take}
use Rattle.sb_rule.specs.Verdicts.{is_for, verdict_by_rule}
use Rattle.sb_compare.proofs.candidates.verdicts.Given as goal

abbrev pub invariant-loop-rule : goal.invariant-loop-rule
invariant-loop-rule l = l.all.items ≡ map verdict_by_rule (filter (is_for l.tag) (take l.rule-index l.rules))
