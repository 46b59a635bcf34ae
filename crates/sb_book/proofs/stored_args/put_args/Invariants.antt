use Rattle.std.proofs.Common.{◌≡◌, ◌+◌, ◌≤◌, ◌++◌, length}
use Rattle.std.specs.Prelude.{vec_capacity, vec_len}
use Rattle.sb_book.specs.StoredArgs.{arg_rows, arg_units}
use Rattle.sb_book.proofs.stored_args.put_args.Given as goal

-- the arguments so far, and those that are left, are all
abbrev pub invariant-loop-arg : goal.invariant-loop-arg
invariant-loop-arg l =
    (l.rows.items ++ arg_rows (length l.units.items) l.rest ≡ l.fn.rows.items ++ arg_rows (length l.fn.units.items) l.args)
    × (l.units.items ++ arg_units l.rest ≡ l.fn.units.items ++ arg_units l.args)
    × (vec_len l.rows + length l.rest ≤ vec_capacity l.rows)
    × (vec_len l.units + length (arg_units l.rest) ≤ vec_capacity l.units)

abbrev pub decreases-loop-arg : goal.decreases-loop-arg
decreases-loop-arg l = length l.rest
