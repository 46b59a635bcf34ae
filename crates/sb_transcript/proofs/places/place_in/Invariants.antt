use Rattle.std.proofs.Common.{◌≡◌, ◌+◌, take}
use Rattle.sb_book.specs.Reports.{thread_count}
use Rattle.sb_transcript.proofs.places.place_in.Given as goal

abbrev pub invariant-loop-thread : goal.invariant-loop-thread
invariant-loop-thread l = thread_count (take l.thread l.threads) + l.left ≡ l.n
