use Rattle.std.proofs.Common.{◌≡◌, ◌++◌, length}
use Rattle.sb_explain.specs.Sources.{statement_lines, statements_in}
use Rattle.sb_explain.proofs.sources.statement_lines.Given as goal

-- the numbers so far, with those of the lines that are left, are all
abbrev pub invariant-loop-line : goal.invariant-loop-line
invariant-loop-line l = l.lines.items ++ statements_in l.rest ≡ statement_lines l.text

abbrev pub decreases-loop-line : goal.decreases-loop-line
decreases-loop-line l = length l.rest
