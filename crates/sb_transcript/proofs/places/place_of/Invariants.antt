use Rattle.std.proofs.Common.{◌≡◌, ◌+◌, take}
use Rattle.sb_book.specs.Reports.{result_count}
use Rattle.sb_transcript.proofs.places.place_of.Given as goal

abbrev pub invariant-loop-target : goal.invariant-loop-target
invariant-loop-target l = result_count (take l.target l.results) + l.left ≡ l.n
