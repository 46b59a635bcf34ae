use Rattle.std.proofs.Common.{◌≡◌, drop}
use Rattle.sb_c.specs.Arguments.{are_within}
use Rattle.sb_c.proofs.arguments.are_within.Given as goal

-- what is left of the arguments gives the same
abbrev pub invariant-loop-argument : goal.invariant-loop-argument
invariant-loop-argument l = are_within l.units (drop l.argument-index l.arguments) ≡ are_within l.units l.arguments
