use Rattle.std.proofs.Common.{◌≡◌, take}
use Rattle.sb_book.specs.Reports.{result_count}
use Rattle.sb_transcript.proofs.counts.result_count.Given as goal

abbrev pub invariant-loop-threads : goal.invariant-loop-threads
invariant-loop-threads l = l.count ≡ result_count (take l.threads-index l.targets)
