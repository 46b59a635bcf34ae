-- What an opcode is.
use Rattle.std.specs.Prelude.{ℕ, List}
use Rattle.sb_rule.specs.declared.cells.Cell.{Cell}
use Rattle.sb_rule.specs.declared.actions.Action.{Action}
use Rattle.sb_opcode.specs.declared.opcodes.Seek.{Seek}
use Rattle.sb_opcode.specs.declared.options.Options.{Options}

-- what an opcode does: it never holds, or always; it holds of one number, of the numbers from one to another, or of those with a bit of
-- a mask; it holds of a string that has a fragment where it is sought; or it ends a rule with an action and the rule's line
pub data OpKind : Type 0 where
  False : OpKind
  True : OpKind
  Num : ℕ → OpKind
  Range : ℕ → ℕ → OpKind
  Mask : ℕ → OpKind
  Text : List Cell → Seek → OpKind
  Act : Action → ℕ → OpKind

-- an opcode: what it does, the parameter that it looks at, and its options
pub record Opcode : Type 0 where
  pub kind : OpKind
  pub param : ℕ
  pub options : Options
