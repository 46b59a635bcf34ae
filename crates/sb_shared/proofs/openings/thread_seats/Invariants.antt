use Rattle.std.proofs.Common.{◌≡◌, drop, map, take}
use Rattle.sb_shared.specs.Making.{keeper_of}
use Rattle.sb_shared.specs.Opening.{thread_of}
use Rattle.sb_shared.specs.Seats.{fresh_thread}
use Rattle.sb_shared.proofs.openings.thread_seats.Given as goal

abbrev pub invariant-loop-place : goal.invariant-loop-place
invariant-loop-place l =
    (l.keeper ≡ keeper_of l.words.table_id l.words.key (map thread_of (drop l.place-index l.places)))
    × (l.seats.items ≡ map (fresh_thread l.words.table_id l.words.key) (take l.place-index l.places))
