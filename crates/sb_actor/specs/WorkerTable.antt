-- The worker of a target, step by step: a table of stage, step and next stage. One row is one atomic step.
use Rattle.std.specs.Prelude.{◌≡◌, ℕ, ◌+◌, ◌%◌, Bool, true, false, ◌==◌, nat_lt, List, [], ◌∷◌, ◌++◌, length, slice_index, Option, None, Some, if◌then◌else◌}
use Rattle.sb_block.specs.Copies.{Copied, copied, is_end, mark_of}
use Rattle.sb_block.specs.Packing.{offset_of}
use Rattle.sb_block.specs.Replies.{reply_words}
use Rattle.sb_actor.specs.Acts.{value_in, turn_in, reply_in, state_word, block_word, ready, acknowledged}
use Rattle.sb_actor.specs.WorkerStages.{WorkerStage, Look, Count, End, Copy, Take, Answer, Give, Reply, Ack, WorkerAt}
use Rattle.sb_actor.specs.declared.acts.Act.{Act}
use Rattle.sb_actor.specs.declared.acts.Act.TheVariants as act
use Rattle.sb_actor.specs.Observations.{Observation}
use Rattle.sb_block.specs.Layout.{most_parameters, first_descriptor, first_reply_word}

-- a row: the step, and the worker after it, by what the step found
pub record WorkerRow : Type 0 where
  pub step : Act
  pub next : Observation → WorkerAt

abbrev pub row : Act → (Observation → WorkerAt) → WorkerRow
row step next = record { step = step; next = next }

-- steps on the words of the worker's channel
abbrev pub load_state : WorkerAt → Act
load_state w = act.Load w.target (state_word w.channel)

abbrev pub load_block : WorkerAt → ℕ → Act
load_block w i = act.Load w.target (block_word w.channel i)

abbrev pub store_block : WorkerAt → ℕ → ℕ → Act
store_block w i value = act.Store w.target (block_word w.channel i) value

abbrev pub exchange_state : WorkerAt → ℕ → ℕ → Act
exchange_state w from to = act.Exchange w.target (state_word w.channel) from to

-- the worker at another stage of its channel
abbrev pub at_stage : WorkerAt → WorkerStage → WorkerAt
at_stage w stage = record w { stage = stage }

-- the worker that looks at the next channel, after the last at channel 0
abbrev pub look_next : WorkerAt → WorkerAt
look_next w = record w { channel = (w.channel + 1) % w.channels; stage = Look }

-- a ready channel is copied
abbrev pub after_look : WorkerAt → ℕ → WorkerAt
after_look w state = if state == ready then at_stage w Count else look_next w

-- a count above 9 ends the copy before its first word
abbrev pub after_count : ℕ → WorkerStage
after_count count = if nat_lt most_parameters count then Take (copied count 0 []) else End count

-- so does an end before the parameters or past the block
abbrev pub after_end : ℕ → ℕ → WorkerStage
after_end count end = if is_end count end then Copy count end [] else Take (copied count end [])

-- the copy is whole with the word before its end
abbrev pub after_copy : ℕ → ℕ → List ℕ → WorkerStage
after_copy count end words = if length words == end then Take (copied count end words) else Copy count end words

-- if the turn is held the worker tries again
abbrev pub after_take : Copied → Bool → WorkerStage
after_take taken got = if got then Answer taken else Take taken

-- the reply is stored with its twelfth word
abbrev pub after_reply : Copied → List ℕ → ℕ → WorkerStage
after_reply taken reply at = if at == 11 then Ack taken reply else Reply taken reply (at + 1)

-- the table. After Ack the worker looks on, also if the exchange found another value, which then stays
abbrev pub worker_row : WorkerAt → WorkerStage → WorkerRow
-- at a stage = the step, and the worker after it by what the step found
worker_row w Look = row (load_state w) (λ s. after_look w (value_in s))
worker_row w Count = row (load_block w 2) (λ s. at_stage w (after_count (value_in s)))
worker_row w (End count) = row (load_block w (first_descriptor + count)) (λ s. at_stage w (after_end count (offset_of (value_in s))))
worker_row w (Copy count end words) = row (load_block w (length words)) (λ s. at_stage w (after_copy count end (words ++ value_in s ∷ [])))
worker_row w (Take taken) = row act.Take (λ s. at_stage w (after_take taken (turn_in s)))
worker_row w (Answer taken) = row act.Answer (λ s. at_stage w (Give taken (reply_words (reply_in s))))
worker_row w (Give taken reply) = row act.Give (λ s. at_stage w (Reply taken reply 0))
worker_row w (Reply taken reply at) = row (store_block w (first_reply_word + at) (slice_index reply at)) (λ s. at_stage w (after_reply taken reply at))
worker_row w (Ack taken reply) = row (exchange_state w ready acknowledged) (λ s. look_next w)

-- the next step of a worker
abbrev pub worker_plan : WorkerAt → Act
worker_plan w = (worker_row w w.stage).step

-- the worker after a step that found this
abbrev pub worker_after : WorkerAt → Observation → WorkerAt
worker_after w seen = (worker_row w w.stage).next seen

-- at Answer the book's reply has the mark of the copy
abbrev pub IsAnswer : WorkerStage → Observation → Type 0
IsAnswer (Answer taken) seen = (reply_in seen).mark ≡ mark_of taken
IsAnswer _ seen = Unit {0}

-- the copy, from its end until the turn is given back
abbrev pub taken_in : WorkerStage → Option Copied
taken_in (Take taken) = Some taken
taken_in (Answer taken) = Some taken
taken_in (Give taken reply) = Some taken
taken_in _ = None

-- the next step is a look
abbrev pub is_looking : WorkerStage → Bool
is_looking Look = true
is_looking _ = false
