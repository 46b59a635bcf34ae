-- The rule of the pool: each number of a work occurs once, on a work in the queue or out with one seat.
use Rattle.std.specs.Prelude.{◌≡◌, ℕ, ◌+◌, ◌≤◌, true, false, cond, nat_lt, Some, List, [], ◌∷◌, length, map, slice_get}
use mathlib.Core.Option as raw
use lib.ListN.{get_elem?}
use Rattle.sb_pool.specs.declared.protocol.PoolView.{PoolView}
use Rattle.sb_pool.specs.Views.{times, with_out, kept}

module _ {H : Type 0} where
  -- how often a number occurs in a list that each seat has
  abbrev pub times_in : (PoolView H → List ℕ) → ℕ → List (PoolView H) → ℕ
  times_in f k [] = 0
  times_in f k (v ∷ vs) = times k (f v) + times_in f k vs

  -- how many numbers of works are out in all
  abbrev pub outs : List (PoolView H) → ℕ
  outs [] = 0
  outs (v ∷ vs) = length v.out + outs vs

  -- a live seat knows the homes, the seat at one place alone keeps the count of all seats, and a seat that was taken in has nothing out
  pub record FitsSeat (homes : List H) (desk : ℕ) (count : ℕ) (i : ℕ) (v : PoolView H) : Type 0 where
    pub same : v.live ≡ true → v.homes ≡ homes
    pub keeper : (c : ℕ) → v.count ≡ Some c → (i ≡ desk) × (c ≡ count)
    pub spent : v.live ≡ false → v.out ≡ []

module _ {W H : Type 0} (number : W → ℕ) (home : W → H) where
  -- Each number below that of the homes is on one work of the queue or out with one seat, and a work in the queue has the home of its number.
  -- Each number below that of the seats is kept by one seat.
  pub record PoolRule (items : List W) (views : List (PoolView H)) : Type 0 where
    pub homes : List H
    pub desk : ℕ
    pub once : (k : ℕ) → times k (map number items) + times_in (λ (v : PoolView H). v.out) k views ≡ cond (nat_lt k (length homes)) 1 0
    pub sizes : length items + outs views ≡ length homes
    pub there : (n : ℕ) (x : W) → get_elem? items n ≡ raw.some x → slice_get homes (number x) ≡ Some (home x)
    pub numbers : (k : ℕ) → times_in kept k views ≡ cond (nat_lt k (length views)) 1 0
    pub seats : (i : ℕ) (v : PoolView H) → get_elem? views i ≡ raw.some v → FitsSeat homes desk (length views) i v

  -- what is drawn was not out with the seat, is out with it now, and has the home of its number
  abbrev pub Drawn : PoolView H → W → PoolView H → Type 0
  Drawn v x w = (w ≡ with_out v (number x)) × (times (number x) v.out ≡ 0) × (slice_get v.homes (number x) ≡ Some (home x))

  -- the rule holds of these works and of some seats, one of which knows this
  abbrev pub IsMoment : PoolView H → List W → Type 0
  IsMoment v items = (views : List (PoolView H)) × (i : ℕ) × PoolRule items views × (get_elem? views i ≡ raw.some v)

module _ {W H : Type 0} where
  -- the queue and this seat have no more works than there are homes
  abbrev pub IsWithin : PoolView H → List W → Type 0
  IsWithin v items = length items + length v.out ≤ length v.homes
