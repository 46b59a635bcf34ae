use Rattle.std.proofs.Common.{◌≡◌, take}
use Rattle.sb_book.specs.Reports.{thread_count}
use Rattle.sb_transcript.proofs.counts.thread_count.Given as goal

abbrev pub invariant-loop-results : goal.invariant-loop-results
invariant-loop-results l = l.count ≡ thread_count (take l.results-index l.threads)
