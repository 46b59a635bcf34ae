use Rattle.std.proofs.Common.{◌≡◌, ◌∷◌, take, map}
use Rattle.sb_call.specs.declared.arguments.Arg.TheVariants.{Num, Str}
use Rattle.sb_gen.proofs.calls.named_call.Given as goal

-- the name and the numbers so far are the arguments
abbrev pub invariant-loop-number : goal.invariant-loop-number
invariant-loop-number l = l.args.items ≡ Str l.fn.name ∷ map Num (take l.number-index l.numbers)
