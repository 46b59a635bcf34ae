-- The rule of the count of the works that are in, and what each step on it tells.
use Rattle.std.specs.Prelude.{◌≡◌, ◌≢◌, ℕ, ◌+◌, ◌<◌, ◌^◌, List, [], ◌∷◌, length, slice_index}
use mathlib.Core.Option as raw
use lib.ListN.{get_elem?}
use Rattle.atomic_table.specs.Seated.{TableId}
use Rattle.atomic_table.specs.Table.{Me}
use Rattle.atomic_table.specs.declared.shared.Seat.{Seat}
use Rattle.sb_pool.specs.declared.events.PoolEvent.{PoolEvent}
use Rattle.sb_pool.specs.declared.events.SeatHistory.{SeatHistory}
use Rattle.sb_pool.specs.Events.{weigh, AreIn, AllBegin, Begins, IsPut, IsDraw, IsLook}

abbrev pub word_count : ℕ
word_count = 33

-- where the count lies
abbrev pub count_word : ℕ
count_word = 16

-- a number of each seat, added up
abbrev pub total : (SeatHistory → ℕ) → List SeatHistory → ℕ
total f [] = 0
total f (v ∷ views) = f v + total f views

-- what a seat has seen is a beginning of the history, and so is what the seats that came together had seen; one that was taken in has nothing left
pub record FitsHistory (events : List PoolEvent) (v : SeatHistory) : Type 0 where
  pub began : Begins v.history events
  pub taken : AllBegin v.taken events
  pub spent : v.seats ≡ 0 → (v.own ≡ []) × (v.out ≡ 0)

-- One history has all events of the pool: those of its seats, each as often as a seat made it, and no others. The word is the number of works that are in
-- after it, and all works are in or out with a seat.
pub record Counts (works seats : ℕ) (words : List ℕ) (views : List SeatHistory) : Type 0 where
  pub events : List PoolEvent
  pub wide : length words ≡ word_count
  pub counted : AreIn events (slice_index words count_word)
  pub sizes : slice_index words count_word + total (λ v. v.out) views ≡ works
  pub small : works < 2 ^ 64
  pub own : (h : PoolEvent → ℕ) → weigh h events ≡ total (λ v. weigh h v.own) views
  pub all_seats : total (λ v. v.seats) views ≡ seats
  pub each : (i : ℕ) (v : SeatHistory) → get_elem? views i ≡ raw.some v → FitsHistory events v

abbrev pub Placed : Type 0
Placed = Me (Unit {0}) SeatHistory

-- the count was n, and a count of 0 is an event
pub record Looked (me : Placed) (n : ℕ) (after : Placed) : Type 0 where
  pub slots : after.1 ≡ me.1
  pub none : n ≡ 0 → IsLook me.0 after.0
  pub some : 0 < n → after ≡ me

-- the count was n, and one was taken from it if it was as seen
pub record Tried (seen : ℕ) (me : Placed) (n : ℕ) (after : Placed) : Type 0 where
  pub slots : after.1 ≡ me.1
  pub same : n ≡ seen → IsDraw me.0 after.0
  pub other : n ≢ seen → after ≡ me

-- one was added
pub record Added (me : Placed) (after : Placed) : Type 0 where
  pub slots : after.1 ≡ me.1
  pub put : IsPut me.0 after.0

-- a seat of this table that holds no slot
abbrev pub IsPlaceOf : {S V : Type 0} → TableId → Seat S V → Type 0
IsPlaceOf table place = (place.table_id ≡ table) × (place.me.1 ≡ [])

-- a place that stands for as many seats and works as before, whatever it has seen since
pub record IsSamePlace {S : Type 0} (old new : Seat S SeatHistory) : Type 0 where
  pub table : new.table_id ≡ old.table_id
  pub slots : new.me.1 ≡ old.me.1
  pub number : new.me.0.number ≡ old.me.0.number
  pub out : new.me.0.out ≡ old.me.0.out
  pub seats : new.me.0.seats ≡ old.me.0.seats
