use Rattle.std.proofs.Common.{◌≡◌, ◌≤◌, ◌-◌, length, take, drop}
use Rattle.sb_ruletext.specs.Conditions.{around_dots}
use Rattle.sb_ruletext.proofs.Dots.{ends_after}
use Rattle.sb_ruletext.proofs.conditions.around_dots.Given as goal

-- the ends of what is left, with what was passed, are those of the word
abbrev pub invariant-loop-passed : goal.invariant-loop-passed
invariant-loop-passed l = (l.passed ≤ length l.word) × (ends_after (take l.passed l.word) (around_dots (drop l.passed l.word)) ≡ around_dots l.word)

abbrev pub decreases-loop-passed : goal.decreases-loop-passed
decreases-loop-passed l = length l.word - l.passed
