-- How a view shows the stage of an actor, and which kind of step its plan is.
use Rattle.std.specs.Prelude.{◌≡◌, ℕ, ◌==◌, List, length, slice_index, take, Option, None, Some, if◌then◌else◌}
use Rattle.sb_actor.specs.WorkerStages.{WorkerStage, WorkerAt}
use Rattle.sb_actor.specs.WorkerStages as worker
use Rattle.sb_actor.specs.ThreadStages.{ThreadStage, ThreadAt}
use Rattle.sb_actor.specs.ThreadStages as thread
use Rattle.sb_actor.specs.Views.{ThreadPlace, Try, Fill, Wait, Fetch, WorkerPlace, Look, Count, End, Copy, Whole, Reply, ThreadView, WorkerView}
use Rattle.sb_actor.specs.Moves.{Deed, take_it, fill, send, wait, fetch, free, abandon, look, load_count, load_end, copy, answer, acknowledge, no_call}

-- Take, Answer and Give leave the view at the whole copy
abbrev pub worker_place_of : WorkerStage → WorkerPlace
worker_place_of worker.Look = Look
worker_place_of worker.Count = Count
worker_place_of (worker.End c) = End c
worker_place_of (worker.Copy c e words) = Copy c e words
worker_place_of (worker.Take taken) = Whole taken
worker_place_of (worker.Answer taken) = Whole taken
worker_place_of (worker.Give taken reply) = Whole taken
worker_place_of (worker.Reply taken reply at) = if at == 0 then Whole taken else Reply taken (take at reply)
worker_place_of (worker.Ack taken reply) = Reply taken reply

-- the kind of the worker's step on a word; steps on the turn have none
abbrev pub worker_deed : WorkerStage → Option Deed
worker_deed worker.Look = Some look
worker_deed worker.Count = Some load_count
worker_deed (worker.End c) = Some load_end
worker_deed (worker.Copy c e words) = Some copy
worker_deed (worker.Reply taken reply at) = Some (answer (slice_index reply at))
worker_deed (worker.Ack taken reply) = Some acknowledge
worker_deed _ = None

-- the worker's view shows the worker's stage
pub record HoldsWorker (v : WorkerView) (w : WorkerAt) : Type 0 where
  pub channels : length v.clean ≡ w.channels
  pub channel : v.channel ≡ w.channel
  pub place : v.place ≡ worker_place_of w.stage

-- a thread that is in no call, or not yet at a channel
abbrev pub thread_place_of : List ℕ → ThreadStage → ThreadPlace
thread_place_of block (thread.Try c rounds all_abandoned) = Try c all_abandoned
thread_place_of block (thread.Fill c i) = Fill c (take i block)
thread_place_of block (thread.Send c) = Fill c block
thread_place_of block (thread.Wait c loads) = Wait c block
thread_place_of block (thread.Fetch c words) = Fetch c block words
thread_place_of block (thread.Free c words) = Fetch c block words
thread_place_of block (thread.Abandon c) = Wait c block
thread_place_of block _ = no_call

-- the kind of a thread's step in a call
abbrev pub thread_deed : List ℕ → ThreadStage → Option Deed
thread_deed block (thread.Try c rounds all_abandoned) = Some take_it
thread_deed block (thread.Fill c i) = Some (fill (slice_index block i))
thread_deed block (thread.Send c) = Some send
thread_deed block (thread.Wait c loads) = Some wait
thread_deed block (thread.Fetch c words) = Some fetch
thread_deed block (thread.Free c words) = Some free
thread_deed block (thread.Abandon c) = Some abandon
thread_deed block _ = None

-- the thread's view shows the thread's stage
pub record HoldsThread (v : ThreadView) (x : ThreadAt) : Type 0 where
  pub number : v.number ≡ x.thread
  pub clean : v.clean ≡ x.clean
  pub place : v.place ≡ thread_place_of x.block x.stage
