-- What a seat of the pool knows, and how each step changes it.
use Rattle.std.specs.Prelude.{◌≡◌, ◌<◌, ◌⊎◌, ℕ, ◌+◌, ◌++◌, true, false, cond, ◌==◌, Option, Some, None, option_map, unwrap_or, List, [], ◌∷◌}
use Rattle.std.specs.Option.{option_or}
use Rattle.sb_pool.specs.declared.protocol.PoolView.{PoolView}

-- how often a number occurs in a list
abbrev pub times : ℕ → List ℕ → ℕ
times k [] = 0
times k (x ∷ xs) = cond (x == k) 1 0 + times k xs

-- a list without the first place of a number
abbrev pub removed : ℕ → List ℕ → List ℕ
removed k [] = []
removed k (x ∷ xs) = cond (x == k) xs (x ∷ removed k xs)

module _ {H : Type 0} where
  -- a seat with these homes and no number out, and with this count if it keeps one
  abbrev pub fresh_view : ℕ → List H → Option ℕ → PoolView H
  fresh_view number homes count =
      record { number = number; homes = homes; out = []; taken = []; count = count; live = true }

  -- the first seat keeps count
  abbrev pub first_view : PoolView H
  first_view = fresh_view 0 [] (Some 1)

  -- a seat that was taken in knows nothing more
  abbrev pub spent_view : PoolView H
  spent_view = record { number = 0; homes = []; out = []; taken = []; count = None; live = false }

  -- the pool has one home more
  abbrev pub with_home : PoolView H → H → PoolView H
  with_home v home = record v { homes = v.homes ++ home ∷ [] }

  -- a number is out with the seat
  abbrev pub with_out : PoolView H → ℕ → PoolView H
  with_out v number = record v { out = number ∷ v.out }

  -- a number came back
  abbrev pub with_back : PoolView H → ℕ → PoolView H
  with_back v number = record v { out = removed number v.out }

  -- one seat more was made of this one
  abbrev pub counted : PoolView H → PoolView H
  counted v = record v { count = option_map (λ c. c + 1) v.count }

  -- the seat that was made: its number is the count before
  abbrev pub newcomer : PoolView H → PoolView H
  newcomer v = fresh_view (unwrap_or v.count 0) v.homes None

  -- another seat was taken in, with all that it had taken in
  abbrev pub with_taken : PoolView H → PoolView H → PoolView H
  with_taken v w = record v { taken = v.taken ++ w.number ∷ w.taken; count = option_or v.count w.count }

  -- the numbers that a seat keeps: its own and those of the seats that it took in, and none once it was taken in itself
  abbrev pub kept : PoolView H → List ℕ
  kept v = cond v.live (v.number ∷ v.taken) []

  -- the seat keeps count, and every other seat was taken in by it
  abbrev pub IsLast : PoolView H → Type 0
  IsLast v = (c : ℕ) × (v.count ≡ Some c) × ((k : ℕ) → k < c → (k ≡ v.number) ⊎ (0 < times k v.taken))
