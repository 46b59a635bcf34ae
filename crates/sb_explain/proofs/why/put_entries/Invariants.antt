use Rattle.std.proofs.Common.{◌≡◌, ◌+◌, length}
use Rattle.sb_explain.specs.Listings.{most_lines, with_lines}
use Rattle.sb_explain.specs.Why.{entry_lines}
use Rattle.sb_explain.proofs.why.put_entries.Given as goal

-- what is listed, with the lines of the entries that are left, is all
abbrev pub invariant-loop-entry : goal.invariant-loop-entry
invariant-loop-entry l =
    (with_lines most_lines l.listing (entry_lines l.explained.ready.now.policies l.explained.ready.now.script l.explained.lines.now l.n l.rest)
    ≡ with_lines most_lines l.initial.listing (entry_lines l.explained.ready.now.policies l.explained.ready.now.script l.explained.lines.now 0 l.entries))
    × (l.n + length l.rest ≡ l.count)

abbrev pub decreases-loop-entry : goal.decreases-loop-entry
decreases-loop-entry l = length l.rest
