use Rattle.std.proofs.Common.{◌≡◌, length}
use Rattle.sb_explain.specs.Lines.{reason_lines}
use Rattle.sb_explain.specs.Listings.{most_lines, with_lines}
use Rattle.sb_explain.specs.Reasons.{reasons}
use Rattle.sb_explain.proofs.why.put_reasons.Given as goal

-- what is listed, with the lines of the reasons that are left, is all
abbrev pub invariant-loop-reason : goal.invariant-loop-reason
invariant-loop-reason l =
    with_lines most_lines l.listing (reason_lines l.tag l.args l.reasons)
    ≡ with_lines most_lines l.initial.listing (reason_lines l.tag l.args (reasons l.rules l.tag l.args))

abbrev pub decreases-loop-reason : goal.decreases-loop-reason
decreases-loop-reason l = length l.reasons
