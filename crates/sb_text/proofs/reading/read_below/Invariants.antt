use Rattle.std.proofs.Common.{◌≡◌, length}
use Rattle.sb_text.specs.Readings.{read_lines}
use Rattle.sb_text.proofs.reading.read_below.Given as goal

-- what the lines that are left make of the draft is what all lines make
abbrev pub invariant-loop-line : goal.invariant-loop-line
invariant-loop-line g l =
    let grammar = g.G.TextGrammar.grammar l.grammar in
    let left = g.L.TextLines.left in
    read_lines grammar l.version l.draft (left l.lines) ≡ read_lines grammar l.version grammar.start (left l.initial.lines)

abbrev pub decreases-loop-line : goal.decreases-loop-line
decreases-loop-line g l = length (g.L.TextLines.left l.lines)
