-- What a step changes of words, turn, book, workers, threads and results: at most one word, the actor itself and its results by at most one, the turn at Take and
-- Give alone, and the book at Answer alone.
use Rattle.std.specs.Prelude.{◌≡◌, ◌≢◌, ℕ, Bool, true, false, ◌==◌, ◌&&◌, List, ◌++◌, length, slice_index, Option}
use Rattle.std.specs.Option.{option_to_list}
use Rattle.sb_actor.specs.ThreadTable.{thread_plan}
use Rattle.sb_actor.specs.WorkerTable.{worker_plan}
use Rattle.sb_actor.specs.declared.acts.Act.{Act}
use Rattle.sb_actor.specs.declared.acts.Act.TheVariants as act
use Rattle.sb_statements.specs.declared.results.StmtResult.{StmtResult}
use Rattle.sb_statements.specs.declared.schedules.Actor.{Actor}
use Rattle.sb_statements.specs.declared.schedules.Actor.TheVariants.{Worker, Thread}
use Rattle.sb_statements.specs.declared.scripts.Script.{Script}
use Rattle.sb_core.specs.Shared.{is_answer}
use Rattle.sb_core.specs.Words.{words_of}
use Rattle.sb_statements.specs.Words.{place_of}
use Rattle.sb_core.specs.Worlds.{WorldAt, worker_at, run_at}

-- the next step of an actor
abbrev pub plan_of : Script → WorldAt → Actor → Act
plan_of script w (Worker target) = worker_plan (worker_at w target)
plan_of script w (Thread target thread) = thread_plan script (run_at w target thread).thread

-- the step stores or exchanges word i of a target
abbrev pub writes : Act → ℕ → ℕ → Bool
writes (act.Store target word value) t i = target == t && place_of word == i
writes (act.Exchange target word from to) t i = target == t && place_of word == i
writes _ t i = false

-- it loads a word
abbrev pub is_load : Act → Bool
is_load (act.Load target word) = true
is_load _ = false

-- it takes the turn or gives it back
abbrev pub moves_turn : Act → Bool
moves_turn act.Take = true
moves_turn act.Give = true
moves_turn _ = false

-- the results of a thread after a step: as they were, or one more
abbrev pub IsOneMore : List StmtResult → List StmtResult → Type 0
IsOneMore before after = (ended : Option StmtResult) × (after ≡ before ++ option_to_list ended)

-- from one world to another by a step of an actor with this plan
pub record Changes (actor : Actor) (plan : Act) (w v : WorldAt) : Type 0 where
  pub words : (t i : ℕ) → writes plan t i ≡ false → slice_index (words_of v.shared.words t) i ≡ slice_index (words_of w.shared.words t) i
  pub sizes : (t : ℕ) → length (words_of v.shared.words t) ≡ length (words_of w.shared.words t)
  pub turn : moves_turn plan ≡ false → v.shared.turn ≡ w.shared.turn
  pub book : is_answer plan ≡ false → v.shared.book ≡ w.shared.book
  pub setting : v.shared.book.setting ≡ w.shared.book.setting
  pub workers : (t : ℕ) → actor ≢ Worker t → worker_at v t ≡ worker_at w t
  pub threads : (t k : ℕ) → actor ≢ Thread t k → run_at v t k ≡ run_at w t k
  pub results : (t k : ℕ) → IsOneMore (run_at w t k).results (run_at v t k).results
