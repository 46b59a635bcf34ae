-- What a step does, as a trace tells it: the phase of its actor, with what the step found.
use Rattle.std.specs.Prelude.{ℕ, ◌+◌, Bool, true, false, ◌==◌, List, [], ◌∷◌, ◌++◌, length, Option, None, Some, is_none, if◌then◌else◌}
use Rattle.sb_actor.specs.Acts.{acknowledged, free, ready, value_in}
use Rattle.sb_actor.specs.Places.{statement_at}
use Rattle.sb_actor.specs.ThreadStages.{ThreadAt, ThreadStage}
use Rattle.sb_actor.specs.ThreadStages as thread
use Rattle.sb_actor.specs.ThreadTable.{thread_plan}
use Rattle.sb_actor.specs.WorkerStages.{WorkerAt, WorkerStage}
use Rattle.sb_actor.specs.WorkerStages as worker
use Rattle.sb_actor.specs.WorkerTable.{taken_in, worker_plan}
use Rattle.sb_block.specs.Copies.{Copied}
use Rattle.sb_block.specs.Packing.{offset_of}
use Rattle.sb_book.specs.declared.entries.Entry.{Entry}
use Rattle.sb_core.specs.Shared.{on_word, on_worker}
use Rattle.sb_core.specs.Worlds.{WorldAt, run_at, step, worker_at}
use Rattle.sb_statements.specs.declared.schedules.Actor.{Actor}
use Rattle.sb_statements.specs.declared.schedules.Actor.TheVariants as actor
use Rattle.sb_statements.specs.declared.scripts.Script.{Script}
use Rattle.sb_statements.specs.declared.statements.Statement.{Statement}
use Rattle.sb_statements.specs.declared.statements.Statement.TheVariants as statement

-- the phases whose words are folded into one line
pub data WordPhase : Type 0 where
  Fill : WordPhase
  Copy : WordPhase
  Reply : WordPhase
  Fetch : WordPhase

-- What is told with the last word of a block: nothing before it, the call that a thread fills, or the copy that a worker takes
pub data Ending : Type 0 where
  GoesOn : Ending
  Filled : Option Statement → Ending
  Whole : Copied → Ending

-- A step waits if it is a look that finds no 3, a try that finds no 1, a take that finds the turn held, or a wait that does not find its value. Other steps are
-- told by their phase: the channel, the word, and what was found
pub data Phase : Type 0 where
  Waits : Phase
  Try : ℕ → Phase
  Send : ℕ → ℕ → Phase
  Wait : ℕ → Phase
  Free : ℕ → Phase
  Abandon : ℕ → Phase
  Direct : Statement → ℕ → Phase
  Look : ℕ → Phase
  Count : ℕ → ℕ → Ending → Phase
  End : ℕ → ℕ → ℕ → Ending → Phase
  Word : WordPhase → ℕ → ℕ → Ending → Phase
  Take : Phase
  Answer : ℕ → List Entry → Phase
  Give : Phase
  Ack : ℕ → ℕ → Phase

-- a step that waits unless it found what it is after
abbrev pub once : Bool → Phase → Phase
once true phase = phase
once false phase = Waits

-- a step on a word that a statement names; a wait goes on until it finds its value
abbrev pub direct_phase : Option Statement → ℕ → Phase
direct_phase (Some (statement.Wait target word value most)) found = once (found == value) (Direct (statement.Wait target word value most) found)
direct_phase (Some other) found = Direct other found
direct_phase None found = Waits

-- the call is told with the last word that a thread fills
abbrev pub filled : Script → ThreadAt → ℕ → Ending
filled script x i = if i + 1 == length x.block then Filled (statement_at script x.target x.thread x.place) else GoesOn

-- the phase of a thread's step, by its stage and what the step found
abbrev pub thread_phase : Script → ThreadAt → ThreadStage → ℕ → Phase
thread_phase script x (thread.Try c rounds all_abandoned) found = once (found == free) (Try c)
thread_phase script x (thread.Fill c i) found = Word Fill c i (filled script x i)
thread_phase script x (thread.Send c) found = Send c found
thread_phase script x (thread.Wait c loads) found = once (found == acknowledged) (Wait c)
thread_phase script x (thread.Fetch c words) found = Word Fetch c (3 + length words) GoesOn
thread_phase script x (thread.Free c words) found = Free c
thread_phase script x (thread.Abandon c) found = Abandon c
thread_phase script x (thread.Stray loads most) found = direct_phase (statement_at script x.target x.thread x.place) found
thread_phase script x thread.Over found = Waits

-- the copy is told with the step that ends it
abbrev pub taken_by : Option Copied → Ending
taken_by None = GoesOn
taken_by (Some taken) = Whole taken

abbrev pub ended_by : WorkerAt → Ending
ended_by after = taken_by (taken_in after.stage)

-- the phase of a worker's step, by its stage, what the step found, the worker after it, whether nobody had the turn, and the entries before and after it
abbrev pub worker_phase : WorkerAt → WorkerStage → ℕ → WorkerAt → Bool → List Entry → List Entry → Phase
worker_phase w worker.Look found after unheld before entries = once (found == ready) (Look w.channel)
worker_phase w worker.Count found after unheld before entries = Count w.channel found (ended_by after)
worker_phase w (worker.End count) found after unheld before entries = End w.channel (15 + count) (offset_of found) (ended_by after)
worker_phase w (worker.Copy count end words) found after unheld before entries = Word Copy w.channel (length words) (ended_by after)
worker_phase w (worker.Take taken) found after unheld before entries = once unheld Take
worker_phase w (worker.Answer taken) found after unheld before entries = Answer (length before) entries
worker_phase w (worker.Give taken reply) found after unheld before entries = Give
worker_phase w (worker.Reply taken reply at) found after unheld before entries = Word Reply w.channel (3 + at) GoesOn
worker_phase w (worker.Ack taken reply) found after unheld before entries = Ack w.channel found

-- what the step of an actor is told as: its own phase, by the world before it and the world after it
abbrev pub phase_of : Script → WorldAt → Actor → WorldAt → Phase
phase_of script w (actor.Worker target) after =
    worker_phase (worker_at w target) (worker_at w target).stage
    (value_in (on_worker w.shared target (worker_at w target) (worker_plan (worker_at w target))).seen)
    (worker_at after target) (is_none w.shared.turn) w.shared.book.entries after.shared.book.entries
phase_of script w (actor.Thread target thread) after =
    thread_phase script (run_at w target thread).thread (run_at w target thread).thread.stage
    (value_in (on_word w.shared (thread_plan script (run_at w target thread).thread)).seen)
