use Rattle.std.proofs.Common.{◌≡◌, map, take}
use Rattle.sb_call.specs.declared.arguments.Arg.TheVariants as arg
use Rattle.sb_cover.proofs.param_covers.args_of_numbers.Given as goal

abbrev pub invariant-loop-number : goal.invariant-loop-number
invariant-loop-number l = l.args.items ≡ map arg.Num (take l.number-index l.numbers)
