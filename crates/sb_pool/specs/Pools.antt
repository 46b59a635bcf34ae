-- Pools and their seats, as contracts see them.
use Rattle.std.specs.Prelude.{◌≡◌, ◌<◌, ◌==◌, ◌+◌, ℕ, true, cond, Option, Some, None, is_some, List, [], length, slice_get}
use Rattle.atomic_table.specs.Seated.{TableId}
use Rattle.crossbeam_queue.specs.Passes.{view}
use Rattle.sb_pool.specs.declared.protocol.PoolView.{PoolView}
use Rattle.sb_pool.specs.declared.seats.PoolSeat.{PoolSeat}
use Rattle.sb_pool.specs.Counting.{IsPlaceOf}
use Rattle.sb_pool.specs.declared.events.SeatHistory.{SeatHistory}
use Rattle.sb_pool.specs.Events.{dealt_history}
use Rattle.sb_pool.specs.Views.{fresh_view, times, IsLast}

-- a pool is known by the tables of its queue and of its count, and by the numbers of its works and seats
pub record PoolValue : Type 0 where
  pub table : TableId
  pub size : ℕ
  pub semaphore : TableId
  pub seats : ℕ

-- the works bear their places as their numbers
abbrev pub AreNumbered : {W : Type 0} → (W → ℕ) → List W → Type 0
AreNumbered {W} number works = (n : ℕ) (work : W) → slice_get works n ≡ Some work → number work ≡ n

module _ {W H : Type 0} where
  -- what a seat knows
  abbrev pub seen : PoolSeat W H → PoolView H
  seen seat = view seat.pass

  -- what a seat knows of the history of its pool
  abbrev pub history_of : PoolSeat W H → SeatHistory
  history_of seat = seat.place.me.0

  -- the seat has a place in the count, with its own number, as many works out as it has, and those seats that it took in; if it keeps count it counts all seats
  pub record IsCounted (pool : PoolValue) (seat : PoolSeat W H) : Type 0 where
    pub place : IsPlaceOf pool.semaphore seat.place
    pub number : (history_of seat).number ≡ (seen seat).number
    pub out : (history_of seat).out ≡ length (seen seat).out
    pub seats : (history_of seat).seats ≡ length (seen seat).taken + 1
    pub count : (c : ℕ) → (seen seat).count ≡ Some c → c ≡ pool.seats

  -- A seat of this pool that was not taken in, and that knows a home for each number. If it keeps count it has the rooms for all works
  abbrev pub IsSeatOf : PoolValue → PoolSeat W H → Type 0
  IsSeatOf pool seat =
      (seat.pass.table_id ≡ pool.table) × (seat.pass.me.1 ≡ []) × ((seen seat).live ≡ true) × (length (seen seat).homes ≡ pool.size)
      × (length seat.rooms ≡ cond (is_some (seen seat).count) pool.size 0) × IsCounted pool seat

  -- the seats are of this table, have their places as numbers, know the homes and have nothing out; the first keeps the count of all
  abbrev pub AreDivided : TableId → List H → List (PoolSeat W H) → Type 0
  AreDivided table homes seats =
      (n : ℕ) (seat : PoolSeat W H) → slice_get seats n ≡ Some seat
      → (seat.pass.table_id ≡ table) × (seat.pass.me.1 ≡ []) × (seen seat ≡ fresh_view n homes (cond (n == 0) (Some (length seats)) None))
      × (length seat.rooms ≡ cond (n == 0) (length homes) 0)

  -- the seats have places in the count, and of the first more can be made, up to this many in all
  abbrev pub ArePlaced : TableId → ℕ → ℕ → List (PoolSeat W H) → Type 0
  ArePlaced semaphore works many seats =
      (n : ℕ) (seat : PoolSeat W H) → slice_get seats n ≡ Some seat → IsPlaceOf semaphore seat.place × (history_of seat ≡ dealt_history works many (length seats) n)

  -- all that the seats know is that the first one put all works in
  abbrev pub AreFresh : ℕ → List (PoolSeat W H) → Type 0
  AreFresh works seats = (n : ℕ) (seat : PoolSeat W H) → slice_get seats n ≡ Some seat → history_of seat ≡ dealt_history works (length seats) (length seats) n

  -- they are seats of this pool
  abbrev pub AreSeats : PoolValue → List H → List (PoolSeat W H) → Type 0
  AreSeats pool homes seats =
      (n : ℕ) (seat : PoolSeat W H) → slice_get seats n ≡ Some seat
      → IsSeatOf pool seat × (seen seat ≡ fresh_view n homes (cond (n == 0) (Some (length seats)) None))

module _ {W H : Type 0} (number : W → ℕ) (home : W → H) (homes : List H) where
  -- the place of a number holds the work that bears it and has its home
  abbrev pub IsHome : List (Option W) → ℕ → Type 0
  IsHome slots n = (work : W) × (slice_get slots n ≡ Some (Some work)) × (number work ≡ n) × (slice_get homes n ≡ Some (home work))

  -- the last seat has `count` numbers out, and each of their works is at its place
  pub record IsGathering (count : ℕ) (v : PoolView H) (slots : List (Option W)) : Type 0 where
    pub live : v.live ≡ true
    pub last : IsLast v
    pub same : v.homes ≡ homes
    pub out : length v.out ≡ count
    pub places : length slots ≡ length homes
    pub placed : (n : ℕ) → 0 < times n v.out → IsHome slots n

  -- each place holds the work of its number
  abbrev pub AreAllHome : List (Option W) → Type 0
  AreAllHome slots = (length slots ≡ length homes) × ((n : ℕ) → n < length homes → IsHome slots n)
