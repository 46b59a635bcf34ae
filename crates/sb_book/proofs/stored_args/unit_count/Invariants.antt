use Rattle.std.proofs.Common.{◌≡◌, ◌+◌, length}
use Rattle.sb_book.specs.StoredArgs.{arg_units}
use Rattle.sb_book.proofs.stored_args.unit_count.Given as goal

-- the units so far, and those that are left, are all
abbrev pub invariant-loop-arg : goal.invariant-loop-arg
invariant-loop-arg l = l.count + length (arg_units l.rest) ≡ length (arg_units l.args)

abbrev pub decreases-loop-arg : goal.decreases-loop-arg
decreases-loop-arg l = length l.rest
