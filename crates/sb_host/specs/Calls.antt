-- A call in plain memory: the caller's side of it, step by step. A table of phase, step and next phase; one row is one atomic step.
use Rattle.std.specs.Prelude.{◌≡◌, ℕ, ◌+◌, Bool, true, false, ◌&&◌, ◌||◌, ◌==◌, not, nat_le, nat_lt, List, [], ◌∷◌, ◌++◌, length, replicate, slice_index, take, Option, None, Some, if◌then◌else◌}
use Rattle.sb_block.specs.Layout.{mark_in}
use Rattle.sb_block.specs.Replies.{read_reply}
use Rattle.sb_actor.specs.Acts.{state_word, block_word, free, busy, ready, acknowledged, abandoned}
use Rattle.sb_actor.specs.Observations.{Value}
use Rattle.sb_actor.specs.Places.{mark_at}
use Rattle.sb_actor.specs.ThreadStages.{ThreadStage, Try, Fill, Send, Wait, Fetch, Free, Abandon, Stray, Over, ThreadAt}
use Rattle.sb_actor.specs.ThreadTable.{after_fetch, reply_by, thread_plan, thread_after, ThreadNext}
use Rattle.sb_actor.specs.declared.acts.Act.{Act}
use Rattle.sb_actor.specs.declared.acts.Act.TheVariants as act
use Rattle.sb_statements.specs.declared.results.CallResult.{CallResult}
use Rattle.sb_statements.specs.declared.results.CallResult.TheVariants as result
use Rattle.sb_statements.specs.declared.results.StmtResult.TheVariants.{Call}
use Rattle.sb_statements.specs.declared.scripts.Script.{Script}
use Rattle.sb_host.specs.declared.calls.CallPhase.{CallPhase}
use Rattle.sb_host.specs.declared.calls.CallPhase.TheVariants as phase
use Rattle.sb_host.specs.declared.calls.ClientCall.{ClientCall}

-- a call on the channels of a target: its patience (0 if it waits for ever), its block, and its stage, which is that of a thread, or how it ended
pub record CallAt : Type 0 where
  pub channels : ℕ
  pub patience : ℕ
  pub block : List ℕ
  pub stage : ThreadStage
  pub result : Option CallResult

-- a row: the step, and the call after it by the value that the step found
pub record CallRow : Type 0 where
  pub step : Act
  pub next : ℕ → CallAt

abbrev pub row : Act → (ℕ → CallAt) → CallRow
row step next = record { step = step; next = next }

-- the call goes on
abbrev pub goes_on : CallAt → ThreadStage → CallAt
goes_on x stage = record x { stage = stage }

-- the call ends with this result
abbrev pub ends : CallAt → CallResult → CallAt
ends x result = record x { stage = Over; result = Some result }

-- after the last channel a round is counted: no channel if all of this round found 5, or if the rounds counted are the patience
abbrev pub after_round : CallAt → ℕ → Bool → CallAt
after_round x rounds all_abandoned =
    if all_abandoned then ends x result.NoChannel
    else (if x.patience == 0 then goes_on x (Try 0 rounds true)
    else (if rounds + 1 == x.patience then ends x result.NoChannel
    else goes_on x (Try 0 (rounds + 1) true)))

-- the channel was free, or the next one is tried
abbrev pub after_try : CallAt → ℕ → ℕ → Bool → ℕ → CallAt
after_try x c rounds all_abandoned found =
    if found == free then goes_on x (Fill c 0)
    else (if c + 1 == x.channels then after_round x rounds (all_abandoned && found == abandoned)
    else goes_on x (Try (c + 1) rounds (all_abandoned && found == abandoned)))

-- the block is filled with its last word
abbrev pub after_fill : CallAt → ℕ → ℕ → ThreadStage
after_fill x c i = if i + 1 == length x.block then Send c else Fill c (i + 1)

-- the block is handed over, if the channel is still the call's
abbrev pub after_send : CallAt → ℕ → ℕ → CallAt
after_send x c found = if found == busy then goes_on x (Wait c 0) else ends x (result.SendLost c found)

-- the reply is there, or one load is counted
abbrev pub after_wait : CallAt → ℕ → ℕ → ℕ → ThreadStage
after_wait x c loads state =
    if state == acknowledged then Fetch c []
    else (if x.patience == 0 then Wait c loads
    else (if loads + 1 == x.patience then Abandon c else Wait c (loads + 1)))

-- the table. A call that has ended does nothing
abbrev pub call_row : CallAt → ThreadStage → CallRow
-- at a phase = the step, and the call after it by what the step found
call_row x (Try c rounds all_abandoned) = row (act.Exchange 0 (state_word c) free busy) (λ found. after_try x c rounds all_abandoned found)
call_row x (Fill c i) = row (act.Store 0 (block_word c i) (slice_index x.block i)) (λ found. goes_on x (after_fill x c i))
call_row x (Send c) = row (act.Exchange 0 (state_word c) busy ready) (λ found. after_send x c found)
call_row x (Wait c loads) = row (act.Load 0 (state_word c)) (λ found. goes_on x (after_wait x c loads found))
call_row x (Fetch c words) = row (act.Load 0 (block_word c (3 + length words))) (λ found. goes_on x (after_fetch c (words ++ found ∷ [])))
call_row x (Free c words) = row (act.Store 0 (state_word c) free) (λ found. ends x (reply_by c (mark_in x.block) (read_reply words)))
call_row x (Abandon c) = row (act.Store 0 (state_word c) abandoned) (λ found. ends x (result.TimedOut c))
call_row x (Stray loads most) = row act.Idle (λ found. x)
call_row x Over = row act.Idle (λ found. x)

-- the next step of a call
abbrev pub call_plan : CallAt → Act
call_plan x = (call_row x x.stage).step

-- the call after a step that found this value
abbrev pub call_after : CallAt → ℕ → CallAt
call_after x found = (call_row x x.stage).next found

-- a call on these channels begins with this block
abbrev pub call_begun : ℕ → ℕ → List ℕ → CallAt
call_begun channels patience block = record { channels = channels; patience = patience; block = block; stage = Try 0 0 true; result = None }

-- the phase of a number in memory
abbrev pub phase_numbered : ℕ → CallPhase
phase_numbered n =
    if n == 1 then phase.Try
    else (if n == 2 then phase.Fill
    else (if n == 3 then phase.Send
    else (if n == 4 then phase.Wait
    else (if n == 5 then phase.Fetch
    else (if n == 6 then phase.Free
    else (if n == 7 then phase.Abandon
    else (if n == 8 then phase.Replied
    else (if n == 9 then phase.NoChannel
    else (if n == 10 then phase.SendLost
    else (if n == 11 then phase.TimedOut
    else phase.Idle))))))))))

-- how many words are moved fits the phase
abbrev pub is_placed : CallPhase → ℕ → ℕ → Bool
is_placed phase.Fill at len = nat_lt at len
is_placed phase.Fetch at len = nat_lt at 12
is_placed phase.Free at len = at == 12
is_placed phase.Idle at len = true
is_placed phase.Try at len = true
is_placed phase.Send at len = true
is_placed phase.Wait at len = true
is_placed phase.Abandon at len = true
is_placed phase.Replied at len = true
is_placed phase.NoChannel at len = true
is_placed phase.SendLost at len = true
is_placed phase.TimedOut at len = true

-- the channel is one of at most 8, the block has a whole head and fits a channel, and fewer tries are counted than the patience
abbrev pub has_range : ClientCall → Bool
has_range s = nat_lt s.channel s.channels && nat_le s.channels 8 && nat_le 16 s.len && nat_le s.len 64 && (s.patience == 0 || nat_lt s.count s.patience)

-- the memory holds a call
abbrev pub is_call : ClientCall → Bool
is_call s = has_range s && is_placed (phase_numbered s.phase) s.at s.len

-- memory that holds no call is idle
abbrev pub phase_in : ClientCall → CallPhase
phase_in s = if is_call s then phase_numbered s.phase else phase.Idle

abbrev pub stage_in : ClientCall → CallPhase → ThreadStage
stage_in s phase.Try = Try s.channel s.count (s.all_abandoned == 1)
stage_in s phase.Fill = Fill s.channel s.at
stage_in s phase.Send = Send s.channel
stage_in s phase.Wait = Wait s.channel s.count
stage_in s phase.Fetch = Fetch s.channel (take s.at s.reply)
stage_in s phase.Free = Free s.channel (take s.at s.reply)
stage_in s phase.Abandon = Abandon s.channel
stage_in s phase.Idle = Over
stage_in s phase.Replied = Over
stage_in s phase.NoChannel = Over
stage_in s phase.SendLost = Over
stage_in s phase.TimedOut = Over

abbrev pub result_in : ClientCall → CallPhase → Option CallResult
result_in s phase.Replied = Some (reply_by s.channel (mark_in (take s.len s.block)) (read_reply s.reply))
result_in s phase.NoChannel = Some result.NoChannel
result_in s phase.SendLost = Some (result.SendLost s.channel s.found)
result_in s phase.TimedOut = Some (result.TimedOut s.channel)
result_in s phase.Idle = None
result_in s phase.Try = None
result_in s phase.Fill = None
result_in s phase.Send = None
result_in s phase.Wait = None
result_in s phase.Fetch = None
result_in s phase.Free = None
result_in s phase.Abandon = None

-- the call that memory holds, whatever its numbers are
abbrev pub call_in : ClientCall → CallAt
call_in s = record {
  channels = s.channels;
  patience = s.patience;
  block = take s.len s.block;
  stage = stage_in s (phase_in s);
  result = result_in s (phase_in s);
}

-- the stage is one of a call that goes on
abbrev pub is_calling : ThreadStage → Bool
is_calling (Try c rounds all_abandoned) = true
is_calling (Fill c i) = true
is_calling (Send c) = true
is_calling (Wait c loads) = true
is_calling (Fetch c words) = true
is_calling (Free c words) = true
is_calling (Abandon c) = true
is_calling (Stray loads most) = false
is_calling Over = false

-- a call may begin: none goes on, there are 1 to 8 channels, the block has a whole head and fits a channel, and its mark is not 0
abbrev pub can_begin : CallAt → ℕ → List ℕ → Bool
can_begin x channels block =
    not (is_calling x.stage) && nat_lt 0 channels && nat_le channels 8 && nat_le 16 (length block) && nat_le (length block) 64
    && not (mark_in block == 0)

-- a thread's call with the same block, mark and stage, all of its channels clean if the call waits for ever, and none if it has a patience
pub record IsThreadOf (x : ThreadAt) (y : CallAt) : Type 0 where
  pub target : x.target ≡ 0
  pub clean : x.clean ≡ replicate y.channels (y.patience == 0)
  pub patience : (y.patience == 0) ≡ false → x.patience ≡ y.patience
  pub block : x.block ≡ y.block
  pub mark : mark_at x.thread x.place ≡ mark_in y.block
  pub stage : x.stage ≡ y.stage

-- the call is on one of its channels
abbrev pub is_within : ℕ → ThreadStage → Bool
is_within channels (Try c rounds all_abandoned) = nat_lt c channels
is_within channels (Fill c i) = nat_lt c channels
is_within channels (Send c) = nat_lt c channels
is_within channels (Wait c loads) = nat_lt c channels
is_within channels (Fetch c words) = nat_lt c channels
is_within channels (Free c words) = nat_lt c channels
is_within channels (Abandon c) = nat_lt c channels
is_within channels (Stray loads most) = false
is_within channels Over = false

-- the thread ends its call with the same result, or both go on alike
abbrev pub AreNext : ThreadNext → CallAt → Option CallResult → Type 0
AreNext next y (Some result) = next.ended ≡ Some (Call result)
AreNext next y None = (next.ended ≡ None) × IsThreadOf next.thread y × (is_within y.channels y.stage ≡ true)

-- a call that goes on makes the step of a thread, and goes on or ends as a thread does, whatever the step finds
abbrev pub CallsStepAsThreads : Type 0
CallsStepAsThreads = (script : Script) (x : ThreadAt) (y : CallAt) (found : ℕ) → IsThreadOf x y → is_within y.channels y.stage ≡ true → y.result ≡ None
    → (call_plan y ≡ thread_plan script x) × AreNext (thread_after script x (Value found)) (call_after y found) (call_after y found).result
