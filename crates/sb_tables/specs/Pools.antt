-- Works of a pool that are out, and seats of a pool that have none.
use Rattle.std.specs.Prelude.{◌≡◌, ◌<◌, ◌⊎◌, ◌+◌, ◌==◌, ℕ, cond, Some, None, List, [], length, slice_get}
use Rattle.sb_pool.specs.Pools.{PoolValue, seen, IsSeatOf}
use Rattle.sb_pool.specs.Views.{times, fresh_view}
use Rattle.sb_pool.specs.declared.seats.PoolSeat.{PoolSeat}
use Rattle.sb_tables.specs.declared.pools.Dealt.{Dealt}
use Rattle.sb_tables.specs.declared.pools.Work.{Work}

-- the work with this number is out with the seat, and may be handed back
abbrev pub IsDue : PoolSeat Work ℕ → ℕ → Work → Type 0
IsDue seat n w = (w.number ≡ n) × (0 < times n (seen seat).out) × (slice_get (seen seat).homes n ≡ Some w.home)

-- seats of this pool with nothing out
abbrev pub AreIdle : PoolValue → List (PoolSeat Work ℕ) → Type 0
AreIdle pool seats = (n : ℕ) (s : PoolSeat Work ℕ) → slice_get seats n ≡ Some s → IsSeatOf pool s × ((seen s).out ≡ [])

-- after works were dealt each seat knows what it knew before
abbrev pub AreAsBefore : PoolValue → List (PoolSeat Work ℕ) → List Dealt → Type 0
AreAsBefore pool seats all =
    (length all ≡ length seats)
    × ((n : ℕ) (d : Dealt) → slice_get all n ≡ Some d → (s : PoolSeat Work ℕ) × (slice_get seats n ≡ Some s) × IsSeatOf pool d.seat × (seen d.seat ≡ seen s))

-- seat n of this many, of this pool, before it takes in another
abbrev pub IsSeatAt : PoolValue → List ℕ → ℕ → ℕ → PoolSeat Work ℕ → Type 0
IsSeatAt pool homes count n seat = IsSeatOf pool seat × (seen seat ≡ fresh_view n homes (cond (n == 0) (Some count) None))

-- the seats of this many that come first, in order
abbrev pub AreDealt : PoolValue → List ℕ → ℕ → List Dealt → Type 0
AreDealt pool homes count all = (n : ℕ) (d : Dealt) → slice_get all n ≡ Some d → IsSeatAt pool homes count n d.seat

-- the last seat, and all others before it
abbrev pub AreInTurn : PoolValue → Dealt → List Dealt → Type 0
AreInTurn pool last others =
    (homes : List ℕ) × IsSeatAt pool homes (length others + 1) (length others) last.seat × AreDealt pool homes (length others + 1) others

-- The last seat of this many others has taken in all but these, which come last; once it took in the first it keeps the count
pub record IsTaking (pool : PoolValue) (many : ℕ) (seat : PoolSeat Work ℕ) (left : List Dealt) : Type 0 where
  pub homes : List ℕ
  pub taken : ℕ
  pub sized : taken + length left ≡ many
  pub own : IsSeatOf pool seat
  pub none : (seen seat).out ≡ []
  pub number : (seen seat).number ≡ many
  pub homes_are : (seen seat).homes ≡ homes
  pub count : (0 < taken) ⊎ (many ≡ 0) → (seen seat).count ≡ Some (many + 1)
  pub absent : 0 < many → taken ≡ 0 → (seen seat).count ≡ None
  pub each : (k : ℕ) → k < taken → 0 < times k (seen seat).taken
  pub more : (n : ℕ) (d : Dealt) → slice_get left n ≡ Some d → IsSeatAt pool homes (many + 1) (taken + n) d.seat
