-- What every world keeps: its numbers are in their ranges, each result is counted, and the turn is with the worker that is in Answer or
-- Give. And what a world keeps of its script.
use Rattle.std.specs.Prelude.{◌≡◌, ◌<◌, ◌≤◌, ℕ, ◌*◌, ◌==◌, Bool, true, false, is_none, List, length, map, slice_get, slice_index, Option, None, Some}
pub use Rattle.sb_actor.specs.Places.{is_over}
use Rattle.sb_actor.specs.Places.{statements_of, statement_at, block_of, mark_at, clean_channels, is_call}
use Rattle.sb_actor.specs.Ranges.{IsSoundStage, IsSoundThreadStage}
use Rattle.sb_actor.specs.ThreadStages.{ThreadStage, Try, Fill, Send, Wait, Fetch, Free, Abandon, Stray, Over, ThreadAt}
use Rattle.sb_actor.specs.WorkerStages.{WorkerStage, WorkerAt}
use Rattle.sb_actor.specs.WorkerStages as worker
use Rattle.sb_book.specs.Histories.{JudgesBy}
use Rattle.sb_book.specs.Readiness.{IsReady}
use Rattle.sb_rule.specs.declared.policies.Policy.{Policy}
use Rattle.sb_statements.specs.declared.scripts.Script.{Script}
use Rattle.sb_statements.specs.Actors.{thread_count}
use Rattle.sb_core.specs.Threads.{RunAt}
use Rattle.sb_core.specs.Words.{words_of}
use Rattle.sb_core.specs.Worlds.{WorldAt, worker_at, threads_at, run_at}
use Rattle.sb_block.specs.Layout.{most_words}
use Rattle.sb_statements.specs.Words.{words_of_channel}

-- the worker is in Answer or Give
abbrev pub has_turn : WorkerStage → Bool
has_turn (worker.Answer taken) = true
has_turn (worker.Give taken reply) = true
has_turn _ = false

-- the turn is with the worker of this target
abbrev pub is_holder : Option ℕ → ℕ → Bool
is_holder None target = false
is_holder (Some holder) target = holder == target

-- how many channels a target has, by the book
abbrev pub channels_at : WorldAt → ℕ → ℕ
channels_at w t = slice_index w.shared.book.setting.channels t

-- The worker of a target is at one of its 1 to 8 channels, and the numbers of its stage are in their ranges. The target has 65 words
-- for each channel. The turn is with this worker exactly if it is in Answer or Give
pub record IsWorkerOf (w : WorldAt) (t : ℕ) (x : WorkerAt) : Type 0 where
  pub its_target : x.target ≡ t
  pub its_channels : x.channels ≡ channels_at w t
  pub within : x.channel < x.channels
  pub few : x.channels ≤ 8
  pub sound : IsSoundStage x.stage
  pub sized : length (words_of w.shared.words t) ≡ x.channels * words_of_channel
  pub turn : has_turn x.stage ≡ is_holder w.shared.turn t

-- a thread is that of its place, knows the channels of its target, its numbers are in their ranges, and it has one result for each
-- statement that ended
pub record IsRunOf (w : WorldAt) (t k : ℕ) (x : RunAt) : Type 0 where
  pub its_target : x.thread.target ≡ t
  pub its_number : x.thread.thread ≡ k
  pub its_channels : length x.thread.clean ≡ channels_at w t
  pub short : length x.thread.block ≤ most_words
  pub sound : IsSoundThreadStage (length x.thread.clean) x.thread.patience x.thread.block x.thread.stage
  pub counted : length x.results ≡ x.thread.place

-- There are at most 8 targets, as many lists of words, workers and policies as the book has targets, the turn is with nobody or with one of the workers, and
-- each worker and each thread is as above. That the entries of the book are a legal history of its setting is kept by the book
pub record IsWorld (w : WorldAt) : Type 0 where
  pub few : length w.workers ≤ 8
  pub policies : length w.shared.book.setting.policies ≡ length w.workers
  pub channels : length w.shared.book.setting.channels ≡ length w.workers
  pub words : length w.shared.words ≡ length w.workers
  pub holder : (t : ℕ) → w.shared.turn ≡ Some t → t < length w.workers
  pub workers : (t : ℕ) → t < length w.workers → IsWorkerOf w t (worker_at w t)
  pub lists : length w.threads ≤ length w.workers
  pub threads : (t k : ℕ) → k < length (threads_at w t) → IsRunOf w t k (run_at w t k)

-- the stage is one of a call
abbrev pub is_calling : ThreadStage → Bool
is_calling (Stray loads most) = false
is_calling Over = false
is_calling _ = true

-- the channel of such a stage
abbrev pub channel_in : ThreadStage → Option ℕ
channel_in (Try c rounds all_abandoned) = Some c
channel_in (Fill c i) = Some c
channel_in (Send c) = Some c
channel_in (Wait c loads) = Some c
channel_in (Fetch c words) = Some c
channel_in (Free c words) = Some c
channel_in (Abandon c) = Some c
channel_in _ = None

-- A thread is at a statement of its script, in a stage of that kind of statement, with the block of it if it is a call, or
-- after the last one. It has the script's patience and its target's clean channels
pub record IsAtStatement (script : Script) (x : ThreadAt) : Type 0 where
  pub place : x.place ≤ length (statements_of script x.target x.thread)
  pub calling : is_calling x.stage ≡ is_call (statement_at script x.target x.thread x.place)
  pub over : is_over x.stage ≡ is_none (statement_at script x.target x.thread x.place)
  pub block : x.block ≡ block_of (mark_at x.thread x.place) (statement_at script x.target x.thread x.place)
  pub patience : x.patience ≡ script.patience
  pub clean : x.clean ≡ clean_channels script x.target

-- a world runs a script that is ready for some policies: it has the script's targets, each with its channels and its threads, and each thread is at one of its
-- statements or after the last
pub record IsRunning (script : Script) (w : WorldAt) : Type 0 where
  pub policies : List Policy
  pub ready : IsReady policies script
  pub channels : w.shared.book.setting.channels ≡ map (λ target. target.channels) script.targets
  pub targets : length w.threads ≡ length script.targets
  pub threads : (t : ℕ) → length (threads_at w t) ≡ thread_count (slice_get script.targets t)
  pub stands : (t k : ℕ) → k < length (threads_at w t) → IsAtStatement script (run_at w t k).thread

-- a world runs a script, and its targets are judged by these policies
unfoldable pub RunsUnder : List Policy → Script → WorldAt → Type 0
RunsUnder policies script w = IsRunning script w × JudgesBy policies w.shared.book
