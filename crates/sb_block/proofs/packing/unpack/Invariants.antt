use Rattle.std.proofs.Common.{◌≡◌, ◌*◌, ◌≤◌, length, take}
use Rattle.std.specs.List.{flat_map}
use Rattle.sb_block.specs.Packing.{word_units}
use Rattle.sb_block.proofs.packing.unpack.Given as goal

abbrev pub invariant-loop-word : goal.invariant-loop-word
invariant-loop-word l =
    (l.units.items ≡ flat_map word_units (take l.word-index l.words))
    × (length l.units.items ≡ 4 * l.word-index)
    × (length l.words ≤ 64)
