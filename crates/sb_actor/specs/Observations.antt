-- What a step finds.
use Rattle.std.specs.Prelude.{ℕ, Bool}
use Rattle.sb_call.specs.declared.replies.Reply.{Reply}

-- the value that a load or an exchange found; nothing, of a store and of the turn given back; whether the turn was taken; and what the book
-- replied
pub data Observation : Type 0 where
  Value : ℕ → Observation
  Done : Observation
  Turn : Bool → Observation
  Answered : Reply → Observation
