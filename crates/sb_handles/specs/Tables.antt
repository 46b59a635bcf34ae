-- The handles that targets hold.
use Rattle.std.specs.Prelude.{◌≡◌, ◌<◌, ◌+◌, ℕ, Bool, true, ◌&&◌, not, ◌==◌, List, [], ◌∷◌, ◌++◌, Option, option_map, map, nat_le}
use Rattle.std.specs.List.{filter, find, list_all}
use Rattle.std.specs.List.Sorted.{IsStrictlySortedBy}
use Rattle.std.specs.Ordering.{nat_cmp}
use Rattle.sb_handles.specs.declared.objects.Held.{Held}
use Rattle.sb_handles.specs.declared.objects.OpenHandle.{OpenHandle}

-- the open handles, and how many were ever granted
pub record Table : Type 0 where
  pub handles : List OpenHandle
  pub granted : ℕ

-- a table, and how many handles can be granted in all before memory is taken again
pub record Store : Type 0 where
  pub table : Table
  pub capacity : ℕ

-- one more handle can be granted without memory
abbrev pub HasRoom : Store → Type 0
HasRoom store = store.table.granted < store.capacity

-- nothing was granted
abbrev pub no_handles : Table
no_handles = record { handles = []; granted = 0 }

-- a handle has this number, and this target holds it
abbrev pub is_of : ℕ → ℕ → OpenHandle → Bool
is_of target number handle = handle.number == number && handle.target == target

-- what a target holds under a number
abbrev pub held_by : Table → ℕ → ℕ → Option Held
held_by table target number = option_map (λ handle. handle.held) (find (is_of target number) table.handles)

-- with a handle more; its number is one more than the count of handles ever granted
abbrev pub with_handle : Table → ℕ → Held → Table
with_handle table target held =
    record { handles = table.handles ++ (record { target = target; number = table.granted + 1; held = held }) ∷ []; granted = table.granted + 1 }

-- without the handle that a target holds under a number
abbrev pub without_handle : Table → ℕ → ℕ → Table
without_handle table target number = record table { handles = filter (λ handle. not (is_of target number handle)) table.handles }

-- the numbers of open handles rise strictly, from 1 to the count of handles ever granted
abbrev pub IsTable : Table → Type 0
IsTable table =
    IsStrictlySortedBy nat_cmp (map (λ handle. handle.number) table.handles)
    × (list_all (λ handle. nat_le 1 handle.number && nat_le handle.number table.granted) table.handles ≡ true)
