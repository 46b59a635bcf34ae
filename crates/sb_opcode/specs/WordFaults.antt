-- What is wrong with words that are to be a code for a call.
use Rattle.std.specs.Prelude.{◌≡◌, ◌≢◌, ℕ, true, List, Some}
use Rattle.std.specs.List.{list_all}
use Rattle.sb_call.specs.declared.tags.CallTag.{CallTag}
use Rattle.sb_opcode.specs.Faults.{fault_of}
use Rattle.sb_opcode.specs.Packing.{packed, is_sized}
use Rattle.sb_opcode.specs.Opcodes.{Opcode}
use Rattle.sb_opcode.specs.declared.faults.WordsFault.{WordsFault}
use Rattle.sb_opcode.specs.declared.faults.WordsFault.TheVariants.{NotPacked, Code}

-- the words are the packing of no opcodes, or of opcodes that have this as their first fault
abbrev pub IsWordsFault : CallTag → List ℕ → WordsFault → Type 0
IsWordsFault tag words NotPacked = (ops : List Opcode) → list_all is_sized ops ≡ true → packed ops ≢ words
IsWordsFault tag words (Code fault) = (ops : List Opcode) × (list_all is_sized ops ≡ true) × (packed ops ≡ words) × (fault_of tag ops ≡ Some fault)
