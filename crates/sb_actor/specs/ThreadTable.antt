-- A thread, step by step: a table of stage, step and next stage. One row is one atomic step. When a statement ends the next one
-- begins at once, without a step.
use Rattle.std.specs.Prelude.{ℕ, ◌+◌, Bool, true, ◌&&◌, ◌==◌, List, [], ◌∷◌, ◌++◌, length, slice_index, slice_index_or, Option, None, Some, if◌then◌else◌}
use Rattle.std.specs.List.{list_any}
use Rattle.sb_block.specs.Replies.{read_reply}
use Rattle.sb_call.specs.declared.replies.Reply.{Reply}
use Rattle.sb_actor.specs.Acts.{value_in, state_word, block_word, free, busy, ready, acknowledged, abandoned}
use Rattle.sb_actor.specs.Places.{statement_at, mark_at, begins}
use Rattle.sb_actor.specs.ThreadStages.{ThreadStage, Try, Fill, Send, Wait, Fetch, Free, Abandon, Stray, Over, ThreadAt}
use Rattle.sb_actor.specs.declared.acts.Act.{Act}
use Rattle.sb_actor.specs.declared.acts.Act.TheVariants as act
use Rattle.sb_actor.specs.Observations.{Observation}
use Rattle.sb_statements.specs.declared.results.CallResult.{CallResult}
use Rattle.sb_statements.specs.declared.results.CallResult.TheVariants as result
use Rattle.sb_statements.specs.declared.results.StmtResult.{StmtResult}
use Rattle.sb_statements.specs.declared.results.StmtResult.TheVariants.{Call, Stored, Found, Met, Unmet}
use Rattle.sb_statements.specs.declared.scripts.Script.{Script}
use Rattle.sb_statements.specs.declared.statements.Statement.{Statement}
use Rattle.sb_statements.specs.declared.statements.Statement.TheVariants as statement
use Rattle.sb_block.specs.Layout.{reply_length, first_reply_word}

-- what a step leads to: the thread after it, and the result if it ended the statement
pub record ThreadNext : Type 0 where
  pub thread : ThreadAt
  pub ended : Option StmtResult

-- a row: the step, and what it leads to, by what it found
pub record ThreadRow : Type 0 where
  pub step : Act
  pub next : Observation → ThreadNext

abbrev pub row : Act → (Observation → ThreadNext) → ThreadRow
row step next = record { step = step; next = next }

-- steps on the words of a channel of the thread's target
abbrev pub load_state : ThreadAt → ℕ → Act
load_state x c = act.Load x.target (state_word c)

abbrev pub load_block : ThreadAt → ℕ → ℕ → Act
load_block x c i = act.Load x.target (block_word c i)

abbrev pub store_state : ThreadAt → ℕ → ℕ → Act
store_state x c value = act.Store x.target (state_word c) value

abbrev pub store_block : ThreadAt → ℕ → ℕ → ℕ → Act
store_block x c i value = act.Store x.target (block_word c i) value

abbrev pub exchange_state : ThreadAt → ℕ → ℕ → ℕ → Act
exchange_state x c from to = act.Exchange x.target (state_word c) from to

-- the statement goes on
abbrev pub goes_on : ThreadAt → ThreadStage → ThreadNext
goes_on x stage = record { thread = record x { stage = stage }; ended = None }

-- nothing changes
abbrev pub stays : ThreadAt → ThreadNext
stays x = record { thread = x; ended = None }

-- the statement ends with a result, and the next one begins
abbrev pub ends : Script → ThreadAt → StmtResult → ThreadNext
ends script x result = record { thread = begins script x (x.place + 1); ended = Some result }

-- a channel of the thread's target is clean; one that is not there is
abbrev pub is_clean_at : ThreadAt → ℕ → Bool
is_clean_at x c = slice_index_or x.clean c true

-- the thread's target has a clean channel
abbrev pub has_clean : List Bool → Bool
has_clean clean = list_any (λ mark. mark) clean

-- after the last channel a round is counted: no channel if this round found all channels abandoned, or if the target has no clean
-- channel and the rounds counted are the patience. On a target that has one the rounds have no bound, and are not kept
abbrev pub after_round : Script → ThreadAt → ℕ → Bool → ThreadNext
after_round script x rounds all_abandoned =
    if all_abandoned then ends script x (Call result.NoChannel)
    else (if has_clean x.clean then goes_on x (Try 0 rounds true)
    else (if rounds + 1 == x.patience then ends script x (Call result.NoChannel)
    else goes_on x (Try 0 (rounds + 1) true)))

-- the channel was free, or the next one is tried
abbrev pub after_try : Script → ThreadAt → ℕ → ℕ → Bool → ℕ → ThreadNext
after_try script x c rounds all_abandoned found =
    if found == free then goes_on x (Fill c 0)
    else (if c + 1 == length x.clean then after_round script x rounds (all_abandoned && found == abandoned)
    else goes_on x (Try (c + 1) rounds (all_abandoned && found == abandoned)))

-- the block is filled with its last word
abbrev pub after_fill : ThreadAt → ℕ → ℕ → ThreadStage
after_fill x c i = if i + 1 == length x.block then Send c else Fill c (i + 1)

-- the block is handed over, if the channel is still the thread's
abbrev pub after_send : Script → ThreadAt → ℕ → ℕ → ThreadNext
after_send script x c found = if found == busy then goes_on x (Wait c 0) else ends script x (Call (result.SendLost c found))

-- the reply is there, or one load is counted. On a clean channel loads have no bound, and are not kept
abbrev pub after_wait : ThreadAt → ℕ → ℕ → ℕ → ThreadStage
after_wait x c loads state =
    if state == acknowledged then Fetch c []
    else (if is_clean_at x c then Wait c loads
    else (if loads + 1 == x.patience then Abandon c else Wait c (loads + 1)))

-- the reply is fetched with its twelfth word
abbrev pub after_fetch : ℕ → List ℕ → ThreadStage
after_fetch c words = if length words == reply_length then Free c words else Fetch c words

-- a reply that has the call's mark is its own
abbrev pub reply_by : ℕ → ℕ → Reply → CallResult
reply_by c mark reply = if reply.mark == mark then result.Reply c reply else result.Foreign c reply.mark

-- the word holds the value, or it is loaded again
abbrev pub after_stray_load : Script → ThreadAt → ℕ → ℕ → Bool → ThreadNext
after_stray_load script x loads most met =
    if met then ends script x (Met (loads + 1))
    else (if loads + 1 == most then ends script x (Unmet most)
    else goes_on x (Stray (loads + 1) most))

-- statements that name a word: one row each
abbrev pub stray_row : Script → ThreadAt → ℕ → ℕ → Option Statement → ThreadRow
-- at a statement = the step, and what it leads to by what it found
stray_row script x loads most (Some (statement.Store t w v)) = row (act.Store t w v) (λ s. ends script x Stored)
stray_row script x loads most (Some (statement.Exchange t w from to)) = row (act.Exchange t w from to) (λ s. ends script x (Found (value_in s)))
stray_row script x loads most (Some (statement.Load t w)) = row (act.Load t w) (λ s. ends script x (Found (value_in s)))
stray_row script x loads most (Some (statement.Wait t w v n)) = row (act.Load t w) (λ s. after_stray_load script x loads most (value_in s == v))
stray_row script x loads most _ = row act.Idle (λ s. stays x)

-- the table. A finished thread's step does nothing
abbrev pub thread_row : Script → ThreadAt → ThreadStage → ThreadRow
-- at a stage = the step, and what it leads to by what it found
thread_row script x (Try c rounds all_abandoned) = row (exchange_state x c free busy) (λ s. after_try script x c rounds all_abandoned (value_in s))
thread_row script x (Fill c i) = row (store_block x c i (slice_index x.block i)) (λ s. goes_on x (after_fill x c i))
thread_row script x (Send c) = row (exchange_state x c busy ready) (λ s. after_send script x c (value_in s))
thread_row script x (Wait c loads) = row (load_state x c) (λ s. goes_on x (after_wait x c loads (value_in s)))
thread_row script x (Fetch c words) = row (load_block x c (first_reply_word + length words)) (λ s. goes_on x (after_fetch c (words ++ value_in s ∷ [])))
thread_row script x (Free c words) = row (store_state x c free) (λ s. ends script x (Call (reply_by c (mark_at x.thread x.place) (read_reply words))))
thread_row script x (Abandon c) = row (store_state x c abandoned) (λ s. ends script x (Call (result.TimedOut c)))
thread_row script x (Stray loads most) = stray_row script x loads most (statement_at script x.target x.thread x.place)
thread_row script x Over = row act.Idle (λ s. stays x)

-- the next step of a thread
abbrev pub thread_plan : Script → ThreadAt → Act
thread_plan script x = (thread_row script x x.stage).step

-- what a step that found this leads to
abbrev pub thread_after : Script → ThreadAt → Observation → ThreadNext
thread_after script x seen = (thread_row script x x.stage).next seen
