use Rattle.std.proofs.Common.{◌≡◌, map}
use Rattle.sb_call.specs.declared.arguments.Arg.TheVariants as arg
use Rattle.sb_cover.proofs.param_covers.args_of_texts.Given as goal

abbrev pub invariant-loop-text : goal.invariant-loop-text
invariant-loop-text l = l.args.items ≡ map arg.Str l.yielded
