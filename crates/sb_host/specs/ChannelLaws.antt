-- A run on the channels of one target, between its worker, callers that use the library and wait for ever, and others that store into no channel.
use Rattle.std.specs.Prelude.{◌≡◌, ℕ, ◌*◌, ◌<◌, ◌≤◌, Bool, true, false, List, [], ◌∷◌, ◌++◌, length, map, replicate, slice_index, slice_set, None, Some}
use mathlib.Core.Option.{some}
use lib.ListN.{get_elem?}
use Rattle.sb_call.specs.declared.replies.Answer.{Answer as HostAnswer}
use Rattle.sb_actor.specs.Laws.{AreFirst, Opened, first_worker, words_after}
use Rattle.sb_actor.specs.Following.{Tells, act_word, act_wrote}
use Rattle.sb_actor.specs.Moves.{Deed, IsBlock, ThreadMay, WorkerMay, met, thread_view, worker_view, wrote}
use Rattle.sb_actor.specs.Observations.{Observation}
use Rattle.sb_actor.specs.Ranges.{IsSoundStage, IsSoundThreadStage}
use Rattle.sb_actor.specs.Rule.{as_served, calls_of}
use Rattle.sb_actor.specs.ThreadStages.{ThreadStage, Try, Fill, Send, Wait, Fetch, Free, Abandon, Stray, Over}
use Rattle.sb_actor.specs.Ties.{HoldsWorker, thread_deed, thread_place_of, worker_deed}
use Rattle.sb_actor.specs.Views.{EndedCall, ThreadView, WorkerView}
use Rattle.sb_host.specs.Calls.{CallAt, call_after, call_plan}
use Rattle.sb_host.specs.HostWorkers.{HostAt, after_answer, after_decision, after_step, host_plan, is_taking_over}
use Rattle.sb_rule.specs.declared.policies.Policy.{Policy}

-- the words of all channels of a target, and what is seen of its worker and of its callers
pub record Channels : Type 0 where
  pub words : List ℕ
  pub worker : WorkerView
  pub callers : List ThreadView

-- a step of the worker or of a caller on word w
pub data ChannelStep : Type 0 where
  OfWorker : ℕ → Deed → ChannelStep
  OfCaller : ℕ → ℕ → Deed → ChannelStep

-- the step is one that its actor may make there, and it leads to these words and views
abbrev pub IsStep : Channels → ChannelStep → Channels → Type 0
IsStep s (OfWorker w d) next = WorkerMay s.worker s.worker.place w d
    × (next ≡ record s { words = words_after s.words w d; worker = worker_view s.worker d (slice_index s.words w) })
IsStep s (OfCaller i w d) next = (v : ThreadView) × (get_elem? s.callers i ≡ some v) × ThreadMay v v.place w d
    × (next ≡ record s { words = words_after s.words w d; callers = slice_set s.callers i (thread_view v d (slice_index s.words w)) })

-- these steps, one after another, lead from one to the other
abbrev pub IsRun : Channels → List ChannelStep → Channels → Type 0
IsRun s [] end = end ≡ s
IsRun s (step ∷ steps) end = (next : Channels) × IsStep s step next × IsRun next steps end

-- all channels of a target are clean: nobody but its worker and its callers stores into them
abbrev pub all_clean : ℕ → List Bool
all_clean channels = replicate channels true

-- no step was made: each state word is 1, all others are 0, and no caller is busy
pub record AreNew (channels : ℕ) (s : Channels) : Type 0 where
  pub size : length s.words ≡ length (all_clean channels) * 65
  pub opened : Opened s.words
  pub worker : s.worker ≡ first_worker (all_clean channels)
  pub callers : AreFirst (all_clean channels) s.callers

-- After any run the calls that the worker served for a caller are, in order and each once, those of the caller that ended, and at most one that
-- is about to end: each with the caller's block as the copy, and with the twelve words that the worker stored as the reply
abbrev pub CallsHaveTheirReplies : Type 0
CallsHaveTheirReplies = (channels : ℕ) (s end : Channels) (steps : List ChannelStep) → AreNew channels s → IsRun s steps end
    → (i : ℕ) (v : ThreadView) → get_elem? end.callers i ≡ some v
    → (late : List EndedCall) × (length late ≤ 1) × (calls_of (all_clean channels) i end.worker.served ≡ map as_served (v.ended_calls ++ late))

-- the call gives up its channel next
abbrev pub is_giving_up : ThreadStage → Bool
is_giving_up (Abandon c) = true
is_giving_up (Try c rounds all_abandoned) = false
is_giving_up (Fill c i) = false
is_giving_up (Send c) = false
is_giving_up (Wait c loads) = false
is_giving_up (Fetch c words) = false
is_giving_up (Free c words) = false
is_giving_up (Stray loads most) = false
is_giving_up Over = false

-- a call that waits for ever, on its channels and within its block and reply, whose block is a whole one of the caller with this number
pub record WaitsForEver (number : ℕ) (y : CallAt) : Type 0 where
  pub patience : y.patience ≡ 0
  pub sound : IsSoundThreadStage y.channels 1 y.block y.stage
  pub keeps : is_giving_up y.stage ≡ false
  pub block : IsBlock number y.block

-- the view of a caller shows the stage of its call
pub record ShowsCall (v : ThreadView) (y : CallAt) : Type 0 where
  pub clean : v.clean ≡ all_clean y.channels
  pub place : v.place ≡ thread_place_of y.block y.stage

-- a call's step of this kind, which found n: its caller may make it, the word is written as that kind writes it, and the view after it shows the
-- stage to which the call then comes
pub record CallGoes (v : ThreadView) (y : CallAt) (d : Deed) (n : ℕ) : Type 0 where
  pub may : ThreadMay v v.place (act_word (call_plan y)) d
  pub writes : act_wrote (call_plan y) n ≡ wrote d (met d n) n
  pub place : (thread_view v d n).place ≡ thread_place_of y.block (call_after y n).stage

-- the steps of a call that waits for ever are ones that a caller may make in such a run
abbrev pub CallsGoAsCallers : Type 0
CallsGoAsCallers = (v : ThreadView) (y : CallAt) (d : Deed) (n : ℕ) → ShowsCall v y → WaitsForEver v.number y → thread_deed y.block y.stage ≡ Some d
    → CallGoes v y d n

-- the view of a worker shows that of a host, which takes over no channel; it is at one of its channels, and its copy and its reply are sound
pub record ShowsHost (v : WorkerView) (h : HostAt) : Type 0 where
  pub worker : HoldsWorker v h.worker
  pub channel_there : h.worker.channel < h.worker.channels
  pub sound : IsSoundStage h.worker.stage
  pub serves : is_taking_over h ≡ false

-- a host's step of this kind, which found n: its worker may make it, the word is written as that kind writes it, and the view after it shows the worker
-- as the host then has it
pub record HostGoes (v : WorkerView) (h : HostAt) (d : Deed) (n : ℕ) (seen : Observation) : Type 0 where
  pub may : WorkerMay v v.place (act_word (host_plan h)) d
  pub writes : act_wrote (host_plan h) n ≡ wrote d (met d n) n
  pub holds : HoldsWorker (worker_view v d n) (after_step h seen).worker

-- the steps of a host on words are ones that a worker may make in such a run
abbrev pub HostsGoAsWorkers : Type 0
HostsGoAsWorkers = (v : WorkerView) (h : HostAt) (d : Deed) (n : ℕ) (seen : Observation) → ShowsHost v h → worker_deed h.worker.stage ≡ Some d
    → Tells (host_plan h) n seen → HostGoes v h d n seen

-- its steps on the turn leave the view as it is
abbrev pub TurnsAreUnseen : Type 0
TurnsAreUnseen = (v : WorkerView) (h : HostAt) (seen : Observation) → ShowsHost v h → worker_deed h.worker.stage ≡ None → HoldsWorker v (after_step h seen).worker

-- so do its decisions
abbrev pub DecisionsAreUnseen : Type 0
DecisionsAreUnseen = (v : WorkerView) (h : HostAt) (policy : Policy) → ShowsHost v h → HoldsWorker v (after_decision h policy).worker

-- and its answers
abbrev pub AnswersAreUnseen : Type 0
AnswersAreUnseen = (v : WorkerView) (h : HostAt) (answer : HostAnswer) → ShowsHost v h → HoldsWorker v (after_answer h answer).worker
