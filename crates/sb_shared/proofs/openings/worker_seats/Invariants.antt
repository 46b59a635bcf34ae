use Rattle.std.proofs.Common.{◌≡◌, ◌-◌, ◌++◌, map, length}
use Rattle.std.specs.List.{range_with_len}
use Rattle.sb_statements.specs.declared.schedules.Actor.TheVariants.{Worker}
use Rattle.sb_shared.specs.Making.{keeper_of}
use Rattle.sb_shared.specs.Opening.{thread_of, thread_places}
use Rattle.sb_shared.specs.Seats.{fresh_worker}
use Rattle.sb_shared.proofs.openings.worker_seats.Given as goal

abbrev pub invariant-loop-target : goal.invariant-loop-target
invariant-loop-target l =
    (l.keeper ≡ keeper_of l.words.table_id l.words.key (map Worker (range_with_len l.target (length l.script.targets - l.target)) ++ map thread_of (thread_places l.script.targets)))
    × (l.seats.items ≡ map (fresh_worker l.words.table_id l.words.key) (range_with_len 0 l.target))
