-- The laws of the rule: it holds at the opening, and each step that an actor may make keeps it.
use Rattle.std.specs.Prelude.{◌≡◌, ◌≢◌, ◌⊎◌, ℕ, ◌≤◌, ◌*◌, ◌%◌, ◌<◌, ◌==◌, Bool, true, List, [], length, slice_index, slice_set, if◌then◌else◌}
use Rattle.std.specs.List.{list_all}
use mathlib.Core.Option.{some}
use lib.ListN.{get_elem?}
use Rattle.sb_block.specs.Blocks.{block, encodes, has_units}
use Rattle.sb_call.specs.declared.arguments.Arg.{Arg}
use Rattle.sb_call.specs.declared.tags.CallTag.{CallTag}
use Rattle.sb_actor.specs.Views.{ThreadView, Look, WorkerView}
use Rattle.sb_actor.specs.Places.{mark_at}
use Rattle.sb_actor.specs.Moves.{IsBlock, Deed, is_clean, met, wrote, thread_view, ThreadMay, worker_view, WorkerMay, StrayMay, no_call}
use Rattle.sb_actor.specs.Rule.{Rule, place, row}
use Rattle.sb_actor.specs.Acts.{free, busy, acknowledged}
use Rattle.sb_statements.specs.Words.{words_of_channel}

-- the words after a step on word w
abbrev pub words_after : List ℕ → ℕ → Deed → List ℕ
words_after words w d = slice_set words w (wrote d (met d (slice_index words w)) (slice_index words w))

-- a step that a thread may make keeps the rule
abbrev pub ThreadKeeps : Type 0
ThreadKeeps = (clean : List Bool) (words : List ℕ) (worker : WorkerView) (threads : List ThreadView) (i w : ℕ) (v : ThreadView) (d : Deed) → Rule clean words worker threads
    → get_elem? threads i ≡ some v → ThreadMay v v.place w d
    → Rule clean (words_after words w d) worker (slice_set threads i (thread_view v d (slice_index words w)))

-- so does one that the worker may make
abbrev pub WorkerKeeps : Type 0
WorkerKeeps = (clean : List Bool) (words : List ℕ) (worker : WorkerView) (threads : List ThreadView) (w : ℕ) (d : Deed) → Rule clean words worker threads
    → WorkerMay worker worker.place w d
    → Rule clean (words_after words w d) (worker_view worker d (slice_index words w)) threads

-- and that of a statement that names its word
abbrev pub StrayKeeps : Type 0
StrayKeeps = (clean : List Bool) (words : List ℕ) (worker : WorkerView) (threads : List ThreadView) (w : ℕ) (d : Deed) → Rule clean words worker threads
    → StrayMay clean w d → Rule clean (words_after words w d) worker threads

-- the view of the worker before anything happens, and that of a thread
abbrev pub first_worker : List Bool → WorkerView
first_worker clean = record { clean = clean; channel = 0; place = Look; served = [] }

abbrev pub first_thread : List Bool → ℕ → ThreadView
first_thread clean number = record { number = number; clean = clean; place = no_call; ended_calls = [] }

-- the opening value of a word: a state is free, and all else 0
abbrev pub opening_at : ℕ → ℕ
opening_at w = if w % words_of_channel == 0 then free else 0

-- each word holds its opening value
abbrev pub Opened : List ℕ → Type 0
Opened words = (w : ℕ) → w < length words → slice_index words w ≡ opening_at w

-- no thread has made a step
abbrev pub AreFirst : List Bool → List ThreadView → Type 0
AreFirst clean threads = (i : ℕ) → i < length threads → get_elem? threads i ≡ some (first_thread clean i)

-- the opening words, with a worker and threads that made no step, meet the rule
abbrev pub Starts : Type 0
Starts = (clean : List Bool) (words : List ℕ) (threads : List ThreadView) → length words ≡ length clean * words_of_channel → Opened words → AreFirst clean threads
    → Rule clean words (first_worker clean) threads

-- the block of a call that encodes, its strings made of units, is a whole block of the thread whose mark it has
abbrev pub BlocksAreWhole : Type 0
BlocksAreWhole = (tag : CallTag) (args : List Arg) (k place : ℕ) → encodes tag args ≡ true → list_all has_units args ≡ true → place < 65536
    → IsBlock k (block tag args (mark_at k place))

-- at a channel is this thread of the target, and no other
pub record IsHeldByOne (threads : List ThreadView) (c : ℕ) : Type 0 where
  pub thread : ℕ
  pub view : ThreadView
  pub listed : get_elem? threads thread ≡ some view
  pub there : place view.place ≡ some c
  pub alone : (i : ℕ) (v : ThreadView) → get_elem? threads i ≡ some v → place v.place ≡ some c → i ≡ thread

-- at a clean channel that is free is no thread; else it is busy, ready or acknowledged, and exactly one thread of the target is there
abbrev pub ChannelsHaveOneThread : Type 0
ChannelsHaveOneThread = (clean : List Bool) (words : List ℕ) (worker : WorkerView) (threads : List ThreadView) (c : ℕ) → Rule clean words worker threads
    → is_clean clean c ≡ true
    → ((row words c 0 ≡ free) × ((i : ℕ) (v : ThreadView) → get_elem? threads i ≡ some v → place v.place ≢ some c))
    ⊎ ((busy ≤ row words c 0) × (row words c 0 ≤ acknowledged) × IsHeldByOne threads c)
