-- The opcodes that are seen in words.
use Rattle.std.specs.Prelude.{◌≡◌, Bool, List, ◌∷◌, map}
use Rattle.sb_rule.specs.declared.cells.Cell.{Cell}
use Rattle.sb_opcode.specs.Groups.{is_act}
use Rattle.sb_opcode.specs.Unpacking.{cell_of}
use Rattle.sb_opcode.specs.Opcodes.{Opcode}
use Rattle.sb_opcode.specs.Opcodes.{OpKind}
use Rattle.sb_opcode.specs.Opcodes.{False, True, Num, Range, Mask, Text, Act}
use Rattle.sb_opcode.specs.declared.opcodes.Look.{Look}
use Rattle.sb_opcode.specs.declared.opcodes.Seek.{Seek}
use Rattle.sb_opcode.specs.declared.opcodes.Opcode.{Opcode as View}
use Rattle.sb_opcode.specs.declared.opcodes.OpKind.{OpKind as ViewKind}
use Rattle.sb_opcode.specs.declared.opcodes.OpKind.TheVariants as view

-- what a borrowed opcode does
abbrev pub kind_of : ViewKind → OpKind
kind_of view.False = False
kind_of view.True = True
kind_of (view.Num n) = Num n
kind_of (view.Range lo hi) = Range lo hi
kind_of (view.Mask mask) = Mask mask
kind_of (view.Text cells seek) = Text (map cell_of cells.now) seek
kind_of (view.Act action line) = Act action line

-- the opcode that a borrowed one is
abbrev pub opcode_of : View → Opcode
opcode_of r = record { kind = kind_of r.kind; param = r.param; options = r.options }

-- one opcode was passed over, which is an action, or is none
abbrev pub IsPassed : Bool → List Opcode → List Opcode → Type 0
IsPassed acts before after = (op : Opcode) × (before ≡ op ∷ after) × (acts ≡ is_act op)

-- a text opcode with this parameter and these options
abbrev pub text_opcode : Look → List Cell → Seek → Opcode
text_opcode look cells seek = record { kind = Text cells seek; param = look.param; options = look.options }
