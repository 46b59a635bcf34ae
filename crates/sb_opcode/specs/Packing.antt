-- How opcodes are packed in words: one record after the other.
use Rattle.std.specs.Prelude.{◌≡◌, ℕ, ◌+◌, ◌*◌, ◌^◌, Bool, true, ◌&&◌, nat_lt, List, [], ◌∷◌, length, map}
use Rattle.std.specs.List.{flat_map, list_all}
use Rattle.sb_rule.specs.declared.cells.Cell.{Cell}
use Rattle.sb_rule.specs.declared.cells.Cell.TheVariants.{Lit, One, Any}
use Rattle.sb_rule.specs.Actions.{action_number}
use Rattle.sb_opcode.specs.Opcodes.{Opcode}
use Rattle.sb_opcode.specs.Opcodes.{OpKind}
use Rattle.sb_opcode.specs.Opcodes.{False, True, Num, Range, Mask, Text, Act}
use Rattle.sb_opcode.specs.declared.opcodes.Seek.{Seek}
use Rattle.sb_opcode.specs.declared.opcodes.Seek.TheVariants.{Skip, Forward, ToEnd}

-- the word of a cell: a unit as itself, `?` above all units, and `*` above that
abbrev pub cell_word : Cell → ℕ
cell_word (Lit u) = u
cell_word One = 65536
cell_word Any = 65537

abbrev pub kind_number : OpKind → ℕ
kind_number False = 0
kind_number True = 1
kind_number (Num n) = 2
kind_number (Range lo hi) = 3
kind_number (Mask m) = 4
kind_number (Text cells seek) = 5
kind_number (Act action line) = 6

abbrev pub seek_number : Seek → ℕ
seek_number (Skip n) = 0
seek_number Forward = 1
seek_number ToEnd = 2

abbrev pub skip_number : Seek → ℕ
skip_number (Skip n) = n
skip_number Forward = 0
skip_number ToEnd = 0

-- the part of the first word that says where a fragment is to be, and 0 if there is none
abbrev pub seek_bits : OpKind → ℕ
seek_bits (Text cells seek) = seek_number seek * 2 ^ 16 + skip_number seek * 2 ^ 32
seek_bits False = 0
seek_bits True = 0
seek_bits (Num n) = 0
seek_bits (Range lo hi) = 0
seek_bits (Mask m) = 0
seek_bits (Act action line) = 0

-- the third and the fourth word of a record, and the cells after them
abbrev pub kind_words : OpKind → List ℕ
kind_words False = 0 ∷ 0 ∷ []
kind_words True = 0 ∷ 0 ∷ []
kind_words (Num n) = n ∷ 0 ∷ []
kind_words (Range lo hi) = lo ∷ hi ∷ []
kind_words (Mask m) = m ∷ 0 ∷ []
kind_words (Text cells seek) = length cells ∷ 0 ∷ map cell_word cells
kind_words (Act action line) = action_number action ∷ line ∷ []

-- the first word of a record: kind, options, seek and skip, the lowest bits first
abbrev pub head_of : Opcode → ℕ
head_of op = kind_number op.kind + op.options.0 * 2 ^ 8 + seek_bits op.kind

-- the record of an opcode
abbrev pub record_of : Opcode → List ℕ
record_of op = head_of op ∷ op.param ∷ kind_words op.kind

-- the words of opcodes: one record after the other
abbrev pub packed : List Opcode → List ℕ
packed ops = flat_map record_of ops

-- a unit has 16 bits
abbrev pub is_sized_cell : Cell → Bool
is_sized_cell (Lit u) = nat_lt u 65536
is_sized_cell One = true
is_sized_cell Any = true

-- a skip has 16 bits, a unit too, and a line 32
abbrev pub is_sized_kind : OpKind → Bool
is_sized_kind (Text cells seek) = list_all is_sized_cell cells && nat_lt (skip_number seek) 65536
is_sized_kind (Act action line) = nat_lt line (2 ^ 32)
is_sized_kind False = true
is_sized_kind True = true
is_sized_kind (Num n) = true
is_sized_kind (Range lo hi) = true
is_sized_kind (Mask m) = true

-- the numbers of an opcode have the sizes of their types: a parameter has 32 bits, and the options have 8
abbrev pub is_sized : Opcode → Bool
is_sized op = is_sized_kind op.kind && nat_lt op.param (2 ^ 32) && nat_lt op.options.0 (2 ^ 8)

-- different opcodes are packed differently
abbrev pub PackingIsOneToOne : Type 0
PackingIsOneToOne = (a b : List Opcode) → list_all is_sized a ≡ true → list_all is_sized b ≡ true → packed a ≡ packed b → a ≡ b
