use Rattle.std.proofs.Common.{◌≡◌, ◌++◌, take, map, true}
use Rattle.std.specs.List.{list_all}
use Rattle.sb_opcode.specs.Packing.{cell_word, is_sized_cell}
use Rattle.sb_opcode.specs.Unpacking.{cell_of}
use Rattle.sb_opcode.proofs.codes.push_words.Given as goal

abbrev pub invariant-loop-cell : goal.invariant-loop-cell
invariant-loop-cell l =
    (l.words.items ≡ l.initial.words.items ++ map cell_word (map cell_of (take l.cell-index l.cells)))
    × (list_all is_sized_cell (map cell_of (take l.cell-index l.cells)) ≡ true)
