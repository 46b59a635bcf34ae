-- What steps find, and the words that they name.
use Rattle.std.specs.Prelude.{ℕ, ◌+◌, Bool, false, []}
use Rattle.sb_call.specs.declared.replies.Reply.{Reply}
use Rattle.sb_actor.specs.declared.acts.Observed.{Observed}
use Rattle.sb_actor.specs.declared.acts.Observed.TheVariants as observed
use Rattle.sb_actor.specs.Observations.{Observation}
use Rattle.sb_actor.specs.Observations as seen
use Rattle.sb_statements.specs.declared.statements.Word.{Word}

-- what a step found that was not at Answer
abbrev pub observation : Observed → Observation
observation (observed.Value n) = seen.Value n
observation observed.Done = seen.Done
observation (observed.Turn got) = seen.Turn got

-- the value that a step found
abbrev pub value_in : Observation → ℕ
value_in (seen.Value n) = n
value_in _ = 0

-- whether a step took the turn
abbrev pub turn_in : Observation → Bool
turn_in (seen.Turn got) = got
turn_in _ = false

abbrev pub no_reply : Reply
no_reply = record { mark = 0; outcome = 0; status = 0; handle = 0; ext = [] }

-- the reply that the book gave
abbrev pub reply_in : Observation → Reply
reply_in (seen.Answered reply) = reply
reply_in _ = no_reply

-- the state of a channel
abbrev pub state_word : ℕ → Word
state_word channel = record { channel = channel; at = 0 }

-- word i of a channel's block
abbrev pub block_word : ℕ → ℕ → Word
block_word channel i = record { channel = channel; at = 1 + i }

-- the states of a channel: nobody uses it, a thread fills it, its block is whole, it holds a reply, its thread waits no more
abbrev pub free : ℕ
free = 1

abbrev pub busy : ℕ
busy = 2

abbrev pub ready : ℕ
ready = 3

abbrev pub acknowledged : ℕ
acknowledged = 4

abbrev pub abandoned : ℕ
abandoned = 5
