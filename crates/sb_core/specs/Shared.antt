-- What all actors share: the channel words of each target, the holder of the turn, and the book. And what a step finds and leaves there.
use Rattle.std.specs.Prelude.{ℕ, Bool, true, false, List, slice_set, Option, None, Some, is_none}
use Rattle.sb_actor.specs.WorkerStages.{WorkerAt}
use Rattle.sb_actor.specs.WorkerTable.{taken_in, worker_after, worker_plan}
use Rattle.sb_actor.specs.declared.acts.Act.{Act}
use Rattle.sb_actor.specs.declared.acts.Act.TheVariants as act
use Rattle.sb_actor.specs.Observations.{Observation}
use Rattle.sb_actor.specs.Observations as seen
use Rattle.sb_block.specs.Copies.{Copied, mark_of}
use Rattle.sb_book.specs.Histories.{History, answered, reply_of, target_decision}
use Rattle.sb_core.specs.Words.{loaded, stored, exchanged, words_of, IsWordThere}
use Rattle.sb_statements.specs.declared.statements.Word.{Word}

-- for each target its channel words, the target whose worker has the turn, and the book with entries and namespace
pub record SharedAt : Type 0 where
  pub words : List (List ℕ)
  pub turn : Option ℕ
  pub book : History

-- what a step changes: nothing; a word of a target, which is set to a value; the turn, which goes to the worker of a target or to nobody; or the book,
-- which answers
pub data Change : Type 0 where
  Nothing : Change
  Sets : ℕ → Word → ℕ → Change
  Turns : Option ℕ → Change
  Answers : History → Change

-- what all share after a change
abbrev pub changed : SharedAt → Change → SharedAt
changed s Nothing = s
changed s (Sets t word value) = record s { words = slice_set s.words t (stored (words_of s.words t) word value) }
changed s (Turns turn) = record s { turn = turn }
changed s (Answers book) = record s { book = book }

-- what a step finds, and what all share after it
pub record Effect : Type 0 where
  pub seen : Observation
  pub shared : SharedAt

abbrev pub finds : Observation → SharedAt → Effect
finds seen shared = record { seen = seen; shared = shared }

-- a step on a word. Each is atomic. Steps on the turn, and that of a finished thread, find nothing here and change nothing
abbrev pub on_word : SharedAt → Act → Effect
-- a step = what it finds, and what it changes
on_word s (act.Load t word) = finds (seen.Value (loaded (words_of s.words t) word)) s
on_word s (act.Store t word value) = finds seen.Done (changed s (Sets t word value))
on_word s (act.Exchange t word from to) = finds (seen.Value (loaded (words_of s.words t) word)) (changed s (Sets t word (exchanged (loaded (words_of s.words t) word) from to)))
on_word s _ = finds seen.Done s

-- the turn after the worker of a target tried to take it: only a turn that nobody has is got
abbrev pub turn_taken : ℕ → Option ℕ → Option ℕ
turn_taken target None = Some target
turn_taken target (Some holder) = Some holder

-- the book answers the copy of a target's worker: by the decision of the target's policy, with one entry
abbrev pub on_answer : SharedAt → ℕ → WorkerAt → Option Copied → Effect
on_answer s target w (Some taken) =
    finds (seen.Answered (reply_of s.book.space target (mark_of taken) (target_decision s.book target taken)))
    (changed s (Answers (answered s.book target w.channel taken (target_decision s.book target taken))))
on_answer s target w None = finds seen.Done s

-- a step of the worker of a target: on a word, or on the turn
abbrev pub on_worker : SharedAt → ℕ → WorkerAt → Act → Effect
-- a step = what it finds, and what it changes
on_worker s target w act.Take = finds (seen.Turn (is_none s.turn)) (changed s (Turns (turn_taken target s.turn)))
on_worker s target w act.Answer = on_answer s target w (taken_in w.stage)
on_worker s target w act.Give = finds seen.Done (changed s (Turns None))
on_worker s target w a = on_word s a

-- what a step of a worker leaves: what all share, and the worker
pub record WorkerStep : Type 0 where
  pub shared : SharedAt
  pub worker : WorkerAt

-- by what the step found
abbrev pub worker_by : WorkerAt → Effect → WorkerStep
worker_by w e = record { shared = e.shared; worker = worker_after w e.seen }

-- one step of the worker of a target, which is a row of its table
abbrev pub worker_step_of : SharedAt → ℕ → WorkerAt → WorkerStep
worker_step_of s target w = worker_by w (on_worker s target w (worker_plan w))

-- the step of a worker whose copy the book answers
abbrev pub is_answer : Act → Bool
is_answer act.Answer = true
is_answer _ = false

-- a step on a word is on one that is there
abbrev pub IsActThere : List (List ℕ) → Act → Type 0
IsActThere words (act.Load t word) = IsWordThere words t word
IsActThere words (act.Store t word value) = IsWordThere words t word
IsActThere words (act.Exchange t word from to) = IsWordThere words t word
IsActThere words _ = Unit {0}
