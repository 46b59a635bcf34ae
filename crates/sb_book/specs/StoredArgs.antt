-- Arguments as they are stored: one of a number has the number, and one of a string has the place of its units in one buffer.
use Rattle.std.specs.Prelude.{ℕ, ◌+◌, Bool, true, nat_le, List, [], ◌∷◌, ◌++◌, length, take, drop}
use Rattle.sb_call.specs.declared.arguments.Arg.{Arg}
use Rattle.sb_call.specs.declared.arguments.Arg.TheVariants.{Num, Str}
use Rattle.sb_book.specs.declared.stored_args.ArgRow.{ArgRow}
use Rattle.sb_book.specs.declared.stored_args.ArgRow.TheVariants as row
use Rattle.sb_book.specs.declared.stored_args.StoredArg.{StoredArg}
use Rattle.sb_book.specs.declared.stored_args.StoredArg.TheVariants as stored

-- the given number of items from a place on
abbrev pub part : {X : Type 0} → List X → ℕ → ℕ → List X
part xs first count = take count (drop first xs)

-- the argument of a row, whose units lie in a buffer
abbrev pub stored_arg : List ℕ → ArgRow → Arg
stored_arg units (row.Num number) = Num number
stored_arg units (row.Str first len) = Str (part units first len)

-- the units of a row's string are in the buffer
abbrev pub has_units : List ℕ → ArgRow → Bool
has_units units (row.Num number) = true
has_units units (row.Str first len) = nat_le (first + len) (length units)

-- the units of the strings of arguments
abbrev pub arg_units : List Arg → List ℕ
arg_units [] = []
arg_units (Num number ∷ args) = arg_units args
arg_units (Str units ∷ args) = units ++ arg_units args

-- the rows of arguments, whose units begin at a place of the buffer
abbrev pub arg_rows : ℕ → List Arg → List ArgRow
arg_rows first [] = []
arg_rows first (Num number ∷ args) = row.Num number ∷ arg_rows first args
arg_rows first (Str units ∷ args) = row.Str first (length units) ∷ arg_rows (first + length units) args

-- the argument that is borrowed
abbrev pub arg_seen : StoredArg → Arg
arg_seen (stored.Num number) = Num number
arg_seen (stored.Str units) = Str units.now
