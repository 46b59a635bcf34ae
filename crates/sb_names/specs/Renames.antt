-- What the renaming of a directory does to the rows, by their names.
use Rattle.std.specs.Prelude.{ℕ, Bool, ◌||◌, List, [], ◌∷◌, ◌++◌, map, not, length, drop, Result, Ok, Err, if◌then◌else◌}
use Rattle.std.specs.BTreeMap.{insert_entry}
use Rattle.std.specs.Cmp.Lexicographic.{slice_cmp}
use Rattle.std.specs.Ordering.{nat_cmp}
use Rattle.sb_names.specs.Keys.{key_of, is_below}
use Rattle.sb_names.specs.Maps.{Rows, is_key, is_there}
use Rattle.sb_names.specs.Trees.{has_parent}

-- the second key is the first, or lies below it
abbrev pub is_at_or_below : List ℕ → List ℕ → Bool
is_at_or_below key other = is_key key other || is_below key other

-- a key that is FROM or lies below it, with TO in the place of FROM, and every other as it is
abbrev pub renamed_key : List ℕ → List ℕ → List ℕ → List ℕ
renamed_key from to key = if is_at_or_below from key then to ++ drop (length from) key else key

-- rows in any order, put in rising order
abbrev pub collected : Rows ℕ → Rows ℕ
collected [] = []
collected (row ∷ rows) = insert_entry (slice_cmp nat_cmp) (collected rows) row.0 row.1

-- each row under its key after FROM was renamed to TO
abbrev pub renamed_rows : Rows ℕ → List ℕ → List ℕ → Rows ℕ
renamed_rows rows from to = collected (map (λ row. (renamed_key (key_of from) (key_of to) row.0, row.1)) rows)

-- why a name is not renamed: it is not there, the new name is below it, the directory of the new name is not there, or the new name is there
pub data RenameRefusal : Type 0 where
  absent : RenameRefusal
  into_itself : RenameRefusal
  no_parent : RenameRefusal
  exists : RenameRefusal

-- the rows with FROM and all below it renamed to TO, or why they stay: the first case that applies
abbrev pub renamed_tree : Rows ℕ → List ℕ → List ℕ → Result (Rows ℕ) RenameRefusal
renamed_tree rows from to =
    if not (is_there rows from) then Err absent
    else (if is_below (key_of from) (key_of to) then Err into_itself
    else (if not (has_parent rows to) then Err no_parent
    else (if is_there rows to then Err exists
    else Ok (renamed_rows rows from to))))
