-- What is kept beside the pipes, so that a pipe is found by its number.
use Rattle.std.specs.Prelude.{◌≡◌, ◌-◌, ℕ, Bool, true, false, ◌||◌, not, ◌==◌, List, length, Option, None, Some, is_some, if◌then◌else◌}
use Rattle.std.specs.List.{find, list_all, slice_get}
use Rattle.sb_base.specs.Names.{is_name_of}
use Rattle.sb_names.specs.Keys.{key_of}
use Rattle.sb_names.specs.Maps.{Rows, is_key}
use Rattle.sb_services.specs.Pipes.{ArePipes}
use Rattle.sb_services.specs.declared.pipe_rows.PipeRow.{PipeRow}

-- the name in a slot, which is empty once its pipe is gone
abbrev pub in_slot : Option (Option (List ℕ)) → Option (List ℕ)
in_slot None = None
in_slot (Some name) = name

-- the name that is kept for a number: that of pipe n is in slot n - 1
abbrev pub name_at : List (Option (List ℕ)) → ℕ → Option (List ℕ)
name_at names number = if number == 0 then None else in_slot (slice_get names (number - 1))

-- a pipe of this number is there
abbrev pub is_numbered : Rows PipeRow → ℕ → Bool
is_numbered rows number = is_some (find (λ row. row.1.number == number) rows)

-- there is a name, and this is its key
abbrev pub is_key_of : Option (List ℕ) → List ℕ → Bool
is_key_of None key = false
is_key_of (Some name) key = is_key (key_of name) key

-- each pipe is under the name that is kept for its number
abbrev pub AreNamed : List (Option (List ℕ)) → Rows PipeRow → Type 0
AreNamed names rows = list_all (λ row. is_key_of (name_at names row.1.number) row.0) rows ≡ true

-- no name is kept of a pipe that is gone
abbrev pub AreOfPipes : List (Option (List ℕ)) → Rows PipeRow → Type 0
AreOfPipes names rows = (number : ℕ) → is_some (name_at names number) ≡ true → is_numbered rows number ≡ true

-- each name is one
abbrev pub AreNames : Rows PipeRow → Type 0
AreNames rows = list_all (λ row. is_name_of row.0) rows ≡ true

-- what a service keeps of its names and its pipes
abbrev pub IsKept : List (Option (List ℕ)) → Rows PipeRow → Type 0
IsKept names rows = ArePipes (record { rows = rows; made = length names }) × AreNamed names rows × AreOfPipes names rows × AreNames rows

-- the pipe of this number, if there is one, is under this name
abbrev pub StandsUnder : List ℕ → ℕ → Rows PipeRow → Type 0
StandsUnder name number rows = list_all (λ row. not (row.1.number == number) || is_key (key_of name) row.0) rows ≡ true
