-- What the rules of the pool say at any moment: of a number that is out, and of a look at the count.
use Rattle.std.specs.Prelude.{◌≡◌, ◌≢◌, ◌<◌, ℕ, List, map, slice_index, slice_set}
use mathlib.Core.Option as raw
use lib.ListN.{get_elem?}
use Rattle.sb_pool.specs.declared.events.SeatHistory.{SeatHistory}
use Rattle.sb_pool.specs.declared.protocol.PoolView.{PoolView}
use Rattle.sb_pool.specs.Counting.{Counts, count_word}
use Rattle.sb_pool.specs.Events.{IsLook}
use Rattle.sb_pool.specs.Views.{times}
use Rattle.sb_pool.specs.Rule.{PoolRule}

module _ {W H : Type 0} (number : W → ℕ) (home : W → H) where
  -- a number that is out with a seat is out once, with no other seat, and on no work in the queue
  abbrev pub IsOutOnce : Type 0
  IsOutOnce =
      (items : List W) (views : List (PoolView H)) (p : ℕ) (v : PoolView H) (k : ℕ) → PoolRule number home items views
      → get_elem? views p ≡ raw.some v → 0 < times k v.out
      → (times k v.out ≡ 1) × (times k (map number items) ≡ 0)
      × ((q : ℕ) (w : PoolView H) → q ≢ p → get_elem? views q ≡ raw.some w → times k w.out ≡ 0)

-- if a seat has seen all that happened, and then tells that no work was in, the count was 0, whatever history the rule finds after it
abbrev pub AreLooksTrue : Type 0
AreLooksTrue =
    (works seats : ℕ) (words after : List ℕ) (views : List SeatHistory) (id : ℕ) (v w : SeatHistory) (counts : Counts works seats words views)
    → get_elem? views id ≡ raw.some v → v.history ≡ counts.events → IsLook v w → Counts works seats after (slice_set views id w) → slice_index words count_word ≡ 0
