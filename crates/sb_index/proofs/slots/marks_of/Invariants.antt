use Rattle.std.proofs.Common.{◌≡◌, ◌≤◌, ◌+◌, length, take}
use Rattle.sb_index.specs.Marks.{AreFresh, AreMarked, AreSized}
use Rattle.sb_index.specs.Tables.{rules_for}
use Rattle.sb_index.proofs.slots.marks_of.Given as goal

abbrev pub invariant-loop-rule : goal.invariant-loop-rule
invariant-loop-rule l =
    AreSized l.marks (length l.bounds + 1) × AreFresh l.marks l.at
    × (l.at ≡ length (rules_for l.tag (take l.rule-index l.rules))) × (l.at ≤ l.rule-index)
    × AreMarked (take l.rule-index l.rules) l.tag l.feature l.bounds l.marks
