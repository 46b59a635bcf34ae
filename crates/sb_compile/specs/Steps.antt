-- The opcodes of a group one by one.
use Rattle.std.specs.Prelude.{Bool, true, false, List, [], ◌∷◌, if◌then◌else◌}
use Rattle.sb_opcode.specs.Opcodes.{Opcode}
use Rattle.sb_compile.specs.Compiling.{end_bits, with_options}

-- an opcode of a group, which may be its last
abbrev pub last_if : Bool → Bool → Opcode → Opcode
last_if is_last negated op = if is_last then with_options (end_bits negated) op else op

-- there is none
abbrev pub is_none : {X : Type 0} → List X → Bool
is_none [] = true
is_none (x ∷ xs) = false
