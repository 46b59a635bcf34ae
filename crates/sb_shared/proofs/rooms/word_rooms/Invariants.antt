use Rattle.std.proofs.Common.{◌≡◌, map, slice_get}
use Rattle.std.specs.List.{range_with_len}
use Rattle.sb_statements.specs.Soundness.{channels_of}
use Rattle.sb_shared.proofs.rooms.word_rooms.Given as goal

abbrev pub invariant-loop-target : goal.invariant-loop-target
invariant-loop-target l = l.rooms.items ≡ map (λ t. channels_of (slice_get l.script.targets t)) (range_with_len 0 l.target)
