use Rattle.std.proofs.Common.{◌≡◌, ◌≤◌, ◌++◌, length, vec_capacity}
use Rattle.std.specs.Vec.Iter.{into_iter_items}
use Rattle.core.specs.Mem.Slots.{slots_items}
use Rattle.sb_shared.specs.Rooms.{all_words_from}
use Rattle.sb_shared.proofs.closings.take_words.Given as goal

abbrev pub invariant-loop-room : goal.invariant-loop-room
invariant-loop-room l =
    (l.words.items ≡ all_words_from (slots_items l.closed.words) 0 l.yielded) × (length l.words.items ≡ length l.yielded)
    × (length l.fn.rooms.items ≤ vec_capacity l.words) × (l.fn.rooms.items ≡ l.yielded ++ into_iter_items l.room-iterator)
