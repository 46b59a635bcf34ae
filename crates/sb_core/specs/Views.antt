-- What is known of a target's actors in a world, and rule S over it: between any two steps the channel words of each target fit what its worker
-- and its threads know.
use Rattle.std.specs.Prelude.{◌≡◌, ◌<◌, ℕ, ◌+◌, Bool, List, [], ◌∷◌, ◌++◌, length, map, slice_index_or, if◌then◌else◌}
use mathlib.Core.Option.{some}
use lib.ListN.{get_elem?}
use Rattle.sb_actor.specs.Moves.{is_clean}
use Rattle.sb_actor.specs.Places.{block_of, clean_channels, mark_at, statement_at}
use Rattle.sb_actor.specs.Rule.{Rule}
use Rattle.sb_actor.specs.ThreadStages.{ThreadAt}
use Rattle.sb_actor.specs.Ties.{HoldsThread, HoldsWorker}
use Rattle.sb_actor.specs.WorkerStages.{WorkerStage, WorkerAt, Look, Count, End, Copy, Take, Answer, Give, Reply, Ack}
use Rattle.sb_actor.specs.Views.{EndedCall, Served, ThreadView, WorkerView}
use Rattle.sb_block.specs.Replies.{read_reply, reply_words}
use Rattle.sb_book.specs.Targets.{of_target}
use Rattle.sb_book.specs.declared.entries.Entry.{Entry}
use Rattle.sb_call.specs.declared.replies.Reply.{Reply as ReplyOf}
use Rattle.sb_statements.specs.declared.results.CallResult.{CallResult}
use Rattle.sb_statements.specs.declared.results.CallResult.TheVariants as call
use Rattle.sb_statements.specs.declared.results.StmtResult.{StmtResult}
use Rattle.sb_statements.specs.declared.results.StmtResult.TheVariants as result
use Rattle.sb_statements.specs.declared.scripts.Script.{Script}
use Rattle.sb_core.specs.Threads.{RunAt, no_run}
use Rattle.sb_core.specs.Words.{words_of}
use Rattle.sb_core.specs.Worlds.{WorldAt, threads_at, worker_at}

-- an entry as the worker served it
abbrev pub as_call : Entry → Served
as_call e = record { channel = e.channel; taken = e.taken; reply = reply_words e.reply }

-- the entries of a target, in order
abbrev pub calls_at : ℕ → List Entry → List Served
calls_at t entries = map as_call (of_target t entries)

-- the call that has its entry and is not acknowledged yet
abbrev pub in_work : ℕ → WorkerStage → List Served
in_work c (Give taken reply) = record { channel = c; taken = taken; reply = reply } ∷ []
in_work c (Reply taken reply at) = record { channel = c; taken = taken; reply = reply } ∷ []
in_work c (Ack taken reply) = record { channel = c; taken = taken; reply = reply } ∷ []
in_work c _ = []

-- a call that got its reply: on which channel, with which block, and what was replied
pub record OwnCall : Type 0 where
  pub channel : ℕ
  pub block : List ℕ
  pub reply : ReplyOf

-- as a thread's view keeps it
abbrev pub as_own : EndedCall → OwnCall
as_own x = record { channel = x.channel; block = x.block; reply = read_reply x.reply }

-- the call of a result Reply on a clean channel; other results have none
abbrev pub own_if : Bool → OwnCall → List OwnCall
own_if b x = if b then x ∷ [] else []

abbrev pub own_call : List Bool → List ℕ → CallResult → List OwnCall
own_call clean block (call.Reply c reply) = own_if (is_clean clean c) (record { channel = c; block = block; reply = reply })
own_call clean block _ = []

abbrev pub own_of : List Bool → List ℕ → StmtResult → List OwnCall
own_of clean block (result.Call r) = own_call clean block r
own_of clean block _ = []

-- those of a thread's results from a place on, each with the block of its statement
abbrev pub own_from : Script → ℕ → ℕ → ℕ → List StmtResult → List OwnCall
own_from script t k i [] = []
own_from script t k i (r ∷ results) =
    own_of (clean_channels script t) (block_of (mark_at k i) (statement_at script t k i)) r ++ own_from script t k (i + 1) results

-- the results Reply of a thread on clean channels, in order, with the blocks of their statements
abbrev pub own_calls : Script → ℕ → ℕ → List StmtResult → List OwnCall
own_calls script t k results = own_from script t k 0 results

-- what is known of a target's worker, and of its threads, in order
pub record TargetViews : Type 0 where
  pub worker : WorkerView
  pub threads : List ThreadView

-- the worker's view is where the worker is, and has served the target's entries, without the last while that is in work
pub record ShowsWorker (calls : List Served) (x : WorkerAt) (v : WorkerView) : Type 0 where
  pub holds : HoldsWorker v x
  pub serves : calls ≡ v.served ++ in_work x.channel x.stage

-- a thread's view is where the thread is, and has its results Reply on clean channels
pub record ShowsThread (calls : List OwnCall) (x : ThreadAt) (v : ThreadView) : Type 0 where
  pub holds : HoldsThread v x
  pub has : map as_own v.ended_calls ≡ calls

-- thread k of a target has such a view
abbrev pub HasView : Script → ℕ → List ThreadView → ℕ → RunAt → Type 0
HasView script t threads k x = (v : ThreadView) × (get_elem? threads k ≡ some v) × ShowsThread (own_calls script t k x.results) x.thread v

-- views of a target meet the rule with its words, and show its worker and its threads
pub record AreViews (script : Script) (t : ℕ) (words : List ℕ) (calls : List Served) (x : WorkerAt) (runs : List RunAt) (views : TargetViews) : Type 0 where
  pub rule : Rule (clean_channels script t) words views.worker views.threads
  pub worker : ShowsWorker calls x views.worker
  pub many : length views.threads ≡ length runs
  pub threads : (k : ℕ) → k < length runs → HasView script t views.threads k (slice_index_or runs k no_run)

-- a target of a world keeps the rule
abbrev pub InRule : Script → WorldAt → ℕ → Type 0
InRule script w t =
    (views : TargetViews) × AreViews script t (words_of w.shared.words t) (calls_at t w.shared.book.entries) (worker_at w t) (threads_at w t) views
