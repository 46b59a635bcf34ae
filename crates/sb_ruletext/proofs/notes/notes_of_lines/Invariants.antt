use Rattle.std.proofs.Common.{◌≡◌, ◌++◌, length}
use Rattle.std.specs.List.{flat_map}
use Rattle.sb_ruletext.specs.Notes.{notes_on}
use Rattle.sb_ruletext.proofs.notes.notes_of_lines.Given as goal

-- the notes that were read and those that follow are those of all lines
abbrev pub invariant-loop-line : goal.invariant-loop-line
invariant-loop-line l = l.notes.items ++ flat_map notes_on l.lines ≡ flat_map notes_on l.initial.lines

abbrev pub decreases-loop-line : goal.decreases-loop-line
decreases-loop-line l = length l.lines
