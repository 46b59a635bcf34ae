-- What a verified code is.
use Rattle.std.specs.Prelude.{List}
use Rattle.sb_call.specs.declared.tags.CallTag.{CallTag}
use Rattle.sb_opcode.specs.Opcodes.{Opcode}

-- the calls that the code is for, and its opcodes
pub record VerifiedCode : Type 0 where
  pub tag : CallTag
  pub code : List Opcode
