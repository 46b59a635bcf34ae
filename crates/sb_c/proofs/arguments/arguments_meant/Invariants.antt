use Rattle.std.proofs.Common.{◌≡◌, drop, take, true}
use Rattle.sb_c.specs.Arguments.{are_within, arguments_meant}
use Rattle.sb_c.proofs.arguments.arguments_meant.Given as goal

-- the arguments so far, and those that are left lie within the units
abbrev pub invariant-loop-argument : goal.invariant-loop-argument
invariant-loop-argument l =
    (l.items.items ≡ arguments_meant l.units (take l.argument-index l.arguments)) × (are_within l.units (drop l.argument-index l.arguments) ≡ true)
