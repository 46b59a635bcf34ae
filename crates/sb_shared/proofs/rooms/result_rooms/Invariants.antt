use Rattle.std.proofs.Common.{◌≡◌, map, slice_get}
use Rattle.std.specs.List.{range_with_len}
use Rattle.sb_statements.specs.Actors.{thread_count}
use Rattle.sb_shared.proofs.rooms.result_rooms.Given as goal

abbrev pub invariant-loop-target : goal.invariant-loop-target
invariant-loop-target l = l.rooms.items ≡ map (λ t. thread_count (slice_get l.script.targets t)) (range_with_len 0 l.target)
