use Rattle.std.proofs.Common.{◌≡◌, true, length}
use Rattle.std.specs.List.{list_all}
use Rattle.sb_transcript.specs.Ranges.{is_argument}
use Rattle.sb_audit.proofs.printable.establish_arguments.Given as goal

-- all are arguments if those that are left are
abbrev pub invariant-loop-arg : goal.invariant-loop-arg
invariant-loop-arg l = list_all is_argument l.rest ≡ true → list_all is_argument l.initial.rest ≡ true

abbrev pub decreases-loop-arg : goal.decreases-loop-arg
decreases-loop-arg l = length l.rest
