-- The options of an opcode: bits of a number.
use Rattle.std.specs.Prelude.{ℕ, Bool, ◌==◌, not, bit_and}
use Rattle.sb_opcode.specs.declared.options.Options.{Options}

-- the options of these bits
abbrev pub options_of : ℕ → Options
options_of bits = record { 0 = bits }

-- the group's result is negated
abbrev pub NEGATE : ℕ
NEGATE = 1

-- the opcode is the last of its group
abbrev pub CLEAR : ℕ
CLEAR = 2

-- the opcode is one of a group of which one is enough
abbrev pub OR : ℕ
OR = 4

-- units are compared folded
abbrev pub FOLD : ℕ
FOLD = 8

-- the string ends with the fragment
abbrev pub EXACT : ℕ
EXACT = 16

-- an option is there
abbrev pub has : Options → ℕ → Bool
has options option = bit_and options.0 option == option

-- there is one of the five
abbrev pub has_options : Options → Bool
has_options options = not (bit_and options.0 31 == 0)
