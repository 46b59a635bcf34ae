use Rattle.std.proofs.Common.{◌≡◌, ◌≤◌, ◌*◌, ◌/◌, ◌%◌, map, length, vec_capacity, slice_index}
use Rattle.std.specs.List.{range_with_len}
use Rattle.core.specs.Mem.Slots.{slots_items}
use Rattle.sb_shared.specs.Rule.{spot}
use Rattle.sb_shared.proofs.rooms.WordRoom.fill.Given as goal

abbrev pub invariant-loop-place : goal.invariant-loop-place
invariant-loop-place l =
    (l.words.items ≡ map (λ i. slice_index (slots_items l.closed.words) (spot l.target (i / 65) (i % 65))) (range_with_len 0 l.place))
    × (length l.words.items ≡ l.place) × (l.channels * 65 ≤ vec_capacity l.words)
