-- What the walks over records keep.
use Rattle.std.specs.Prelude.{Bool, false, List, [], ◌∷◌}
use Rattle.std.proofs.Common.{◌≡◌, refl}
use Rattle.sb_opcode.specs.Groups.{is_act}
use Rattle.sb_opcode.specs.Faults.{ends_with_act}
use Rattle.sb_opcode.specs.Opcodes.{Opcode}

-- the same, if the opcode before these ends so
abbrev pub ends_after : Bool → List Opcode → Bool
ends_after ends [] = ends
ends_after ends (op ∷ ops) = ends_with_act (op ∷ ops)

pub ends_step : (op : Opcode) (ops : List Opcode) → ends_with_act (op ∷ ops) ≡ ends_after (is_act op) ops
ends_step op [] = refl
ends_step op (next ∷ ops) = refl

pub ends_first : (ops : List Opcode) → ends_after false ops ≡ ends_with_act ops
ends_first [] = refl
ends_first (op ∷ ops) = refl
