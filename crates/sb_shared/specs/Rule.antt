-- The rule of the table: its words, its slot and what the seats know are those of a world to which one list of events leads, of which each seat has seen a beginning.
use Rattle.std.specs.Prelude.{◌≡◌, ◌≢◌, ◌<◌, ℕ, ◌+◌, ◌*◌, true, List, Option, None, Some, length, slice_index}
use mathlib.Core.Option as raw
use lib.ListN.{get_elem?}
use Rattle.atomic_table.specs.Table.{State}
use Rattle.sb_actor.specs.Moves.{at}
use Rattle.sb_book.specs.Histories.{History}
use Rattle.sb_statements.specs.Actors.{is_there}
use Rattle.sb_statements.specs.Limits.{most_channels, most_targets}
use Rattle.sb_statements.specs.declared.schedules.Actor.{Actor}
use Rattle.sb_core.specs.Actors.{are_there}
use Rattle.sb_core.specs.Kept.{IsWorld, IsRunning}
use Rattle.sb_core.specs.Shared.{SharedAt}
use Rattle.sb_core.specs.Words.{words_of}
use Rattle.sb_core.specs.Worlds.{WorldAt}
use Rattle.sb_shared.specs.Events.{Begins, actors_of, steps_of, stop_in, world_in}
use Rattle.sb_shared.specs.Origins.{setting_in}
use Rattle.sb_shared.specs.Parts.{actor_in, part_of}
use Rattle.sb_shared.specs.Steps.{IsSince}
use Rattle.sb_shared.specs.declared.views.Event.{Event}
use Rattle.sb_shared.specs.declared.views.Origin.{Origin}
use Rattle.sb_shared.specs.declared.views.Part.{Part}
use Rattle.sb_shared.specs.declared.views.TakenSeat.{TakenSeat}
use Rattle.sb_shared.specs.declared.views.View.{View}

-- the words of two cache lines
abbrev pub line_pair : ℕ
line_pair = 16

-- from one channel of a target to the next: its 65 words, and unused ones up to the end of a pair of cache lines
abbrev pub channel_stride : ℕ
channel_stride = 5 * line_pair

-- from one target to the next
abbrev pub target_stride : ℕ
target_stride = most_channels * channel_stride

-- where word j of channel c of target t lies among the words of the table
abbrev pub spot : ℕ → ℕ → ℕ → ℕ
spot t c j = t * target_stride + c * channel_stride + j

-- the turn word
abbrev pub turn_word : ℕ
turn_word = most_targets * target_stride

-- the stop word
abbrev pub stop_word : ℕ
stop_word = turn_word + line_pair

abbrev pub word_count : ℕ
word_count = stop_word + line_pair

-- 0 if nobody has the turn, else one more than the target of the worker that has it
abbrev pub turn_number : Option ℕ → ℕ
turn_number None = 0
turn_number (Some t) = t + 1

-- what the slot of the table holds
abbrev pub Slot : Type 0
Slot = Option History

-- the book is at home if nobody has the turn, and is out else
abbrev pub slot_of : Option ℕ → History → raw.Option Slot
slot_of None book = raw.some (Some book)
slot_of (Some t) book = raw.none

-- the words and the slot are those of what all share
pub record Shows (s : SharedAt) (words : List ℕ) (homes : List (raw.Option Slot)) : Type 0 where
  pub sized : length words ≡ word_count
  pub rows : (t c j : ℕ) → t < 8 → c < 8 → j < 65 → slice_index words (spot t c j) ≡ slice_index (words_of s.words t) (at c j)
  pub turn : slice_index words turn_word ≡ turn_number s.turn
  pub slot : get_elem? homes 0 ≡ raw.some (slot_of s.turn s.book)

module _ (key : Origin) (events : List Event) (w : WorldAt) (owner : Actor → ℕ) where
  -- a part of seat i is that of the world, no other seat has it, and the seat has seen all steps of its actor
  pub record FitsPart (i : ℕ) (v : View) (p : Part) : Type 0 where
    pub key_is : v.key ≡ key
    pub is : p ≡ part_of w (actor_in p)
    pub there : is_there key.script.value.targets (actor_in p) ≡ true
    pub owned : owner (actor_in p) ≡ i
    pub seen : steps_of (actor_in p) events ≡ steps_of (actor_in p) v.history

  -- a seat that was taken in by seat i has seen all steps of its actors
  pub record FitsTaken (i : ℕ) (t : TakenSeat) : Type 0 where
    pub since : IsSince t.parts t.history events
    pub owned : (n : ℕ) (p : Part) → get_elem? t.parts n ≡ raw.some p → owner (actor_in p) ≡ i

  -- what the seat has seen is what happened first
  pub record FitsView (i : ℕ) (v : View) : Type 0 where
    pub parts : (n : ℕ) (p : Part) → get_elem? v.parts n ≡ raw.some p → FitsPart i v p
    pub apart : (m n : ℕ) (p q : Part) → get_elem? v.parts m ≡ raw.some p → get_elem? v.parts n ≡ raw.some q → m ≢ n → actor_in p ≢ actor_in q
    pub history : Begins v.history events
    pub taken : (n : ℕ) (t : TakenSeat) → get_elem? v.taken n ≡ raw.some t → FitsTaken i t

-- this has happened from the start on, which led to world w
pub record RuleAt (key : Origin) (words : List ℕ) (homes : List (raw.Option Slot)) (views : List View)
    (events : List Event) (w : WorldAt) (owner : Actor → ℕ) : Type 0 where
  pub reached : w ≡ world_in key events
  pub there : are_there key.script.value.targets (actors_of events) ≡ true
  pub world : IsWorld w
  pub running : IsRunning key.script.value w
  pub setting : w.shared.book.setting ≡ setting_in key
  pub shows : Shows w.shared words homes
  pub stop : slice_index words stop_word ≡ stop_in events
  pub seats : (i : ℕ) (v : View) → get_elem? views i ≡ raw.some v → FitsView key events w owner i v

-- the rule of the table
abbrev pub Holds : Origin → State Slot View → Type 0
Holds key s = (events : List Event) × (w : WorldAt) × (owner : Actor → ℕ) × RuleAt key s.words s.homes s.views events w owner
