-- What happens to a table of handles in the course of time: handles are granted and closed, one after another.
use Rattle.std.specs.Prelude.{◌≡◌, ◌≤◌, ◌+◌, ℕ, true, ◌&&◌, nat_lt, nat_le, List, [], ◌∷◌}
use Rattle.std.specs.List.{list_all}
use Rattle.std.specs.List.Sorted.{IsStrictlySortedBy}
use Rattle.std.specs.Ordering.{nat_cmp}
use Rattle.sb_handles.specs.Tables.{Table, with_handle, without_handle}
use Rattle.sb_handles.specs.declared.objects.Held.{Held}

-- a target is granted a handle, or closes the one of a number
pub data Step : Type 0 where
  Granted : ℕ → Held → Step
  Closed : ℕ → ℕ → Step

-- the table after a history
abbrev pub table_after : Table → List Step → Table
table_after table [] = table
table_after table (Granted target held ∷ steps) = table_after (with_handle table target held) steps
table_after table (Closed target number ∷ steps) = table_after (without_handle table target number) steps

-- the numbers that a history grants, in order
abbrev pub numbers_granted : Table → List Step → List ℕ
numbers_granted table [] = []
numbers_granted table (Granted target held ∷ steps) = (table.granted + 1) ∷ numbers_granted (with_handle table target held) steps
numbers_granted table (Closed target number ∷ steps) = numbers_granted (without_handle table target number) steps

-- no number is granted twice in a history, whatever was closed in between: the numbers rise
abbrev pub NumbersRise : Type 0
NumbersRise = (table : Table) (steps : List Step) → IsStrictlySortedBy nat_cmp (numbers_granted table steps)

-- each is above the count of handles granted before, and at most the count after
abbrev pub NumbersAreCounted : Type 0
NumbersAreCounted = (table : Table) (steps : List Step)
    → list_all (λ n. nat_lt table.granted n && nat_le n (table_after table steps).granted) (numbers_granted table steps) ≡ true

-- the count of handles granted never falls
abbrev pub GrantedNeverFalls : Type 0
GrantedNeverFalls = (table : Table) (steps : List Step) → table.granted ≤ (table_after table steps).granted
