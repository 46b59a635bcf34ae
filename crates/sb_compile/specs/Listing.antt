-- The listing of a program.
use Rattle.std.specs.Prelude.{ℕ, ◌+◌, Bool, List, [], ◌∷◌, ◌++◌, codes, if◌then◌else◌}
use Rattle.std.specs.List.{flat_map}
use Rattle.std.specs.Fmt.{decimal}
use Rattle.sb_base.specs.Numbers.{hexadecimal}
use Rattle.sb_base.specs.Quoting.{quoted}
use Rattle.sb_call.specs.CallWords.{call_word, every_tag}
use Rattle.sb_call.specs.declared.tags.CallTag.{CallTag}
use Rattle.sb_rule.specs.PatternReading.{text_of}
use Rattle.sb_rule.specs.Actions.{action_word}
use Rattle.sb_opcode.specs.Options.{has, NEGATE, CLEAR, OR, FOLD, EXACT}
use Rattle.sb_opcode.specs.Opcodes.{Opcode}
use Rattle.sb_opcode.specs.Opcodes.{OpKind}
use Rattle.sb_opcode.specs.Opcodes.{False, True, Num, Range, Mask, Text, Act}
use Rattle.sb_opcode.specs.declared.opcodes.Seek.{Seek}
use Rattle.sb_opcode.specs.declared.opcodes.Seek.TheVariants.{Skip, Forward, ToEnd}
use Rattle.sb_opcode.specs.declared.options.Options.{Options}
use Rattle.sb_compile.specs.Compiling.{Compiled, code_in}

abbrev pub seek_text : Seek → List ℕ
seek_text (Skip n) = codes "skip " ++ decimal n
seek_text Forward = codes "forward"
seek_text ToEnd = codes "end"

-- a blank, and a number in lower-case hexadecimal
abbrev pub number_text : ℕ → List ℕ
number_text n = codes " 0x" ++ hexadecimal n

-- what an opcode does, and the parameter at which it looks
abbrev pub kind_text : OpKind → ℕ → List ℕ
kind_text False param = codes "false"
kind_text True param = codes "true"
kind_text (Num n) param = codes "num p" ++ decimal param ++ number_text n
kind_text (Range lo hi) param = codes "range p" ++ decimal param ++ number_text lo ++ number_text hi
kind_text (Mask mask) param = codes "mask p" ++ decimal param ++ number_text mask
kind_text (Text cells seek) param = codes "text p" ++ decimal param ++ codes " " ++ seek_text seek ++ codes " " ++ quoted (text_of cells)
kind_text (Act action line) param = codes "action " ++ action_word action ++ codes " line " ++ decimal line

-- a word, if an option is there
abbrev pub word_if : Bool → List ℕ → List ℕ
word_if has word = if has then word else []

abbrev pub options_text : Options → List ℕ
options_text options =
    word_if (has options FOLD) (codes " fold") ++ word_if (has options EXACT) (codes " exact") ++ word_if (has options NEGATE) (codes " negate")
    ++ word_if (has options CLEAR) (codes " clear") ++ word_if (has options OR) (codes " or")

-- the line of the opcode at a place
abbrev pub opcode_line : ℕ → Opcode → List ℕ
opcode_line at op = decimal at ++ codes " " ++ kind_text op.kind op.param ++ options_text op.options ++ 10 ∷ []

-- the lines of opcodes, of which the first has this place
abbrev pub opcode_lines : ℕ → List Opcode → List ℕ
opcode_lines at [] = []
opcode_lines at (op ∷ ops) = opcode_line at op ++ opcode_lines (at + 1) ops

-- a heading and a line for each opcode, if there is code
abbrev pub code_lines : List ℕ → CallTag → List Opcode → List ℕ
code_lines name tag [] = []
code_lines name tag (op ∷ ops) = codes "code " ++ name ++ codes " " ++ call_word tag ++ 10 ∷ opcode_lines 0 (op ∷ ops)

-- the listing of a program: the calls in the order of their numbers
abbrev pub listing_of : Compiled → List ℕ
listing_of program = flat_map (λ tag. code_lines program.name tag (code_in program tag)) every_tag
