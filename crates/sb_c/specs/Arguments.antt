-- Arguments from C and to C. A string is a part of an array of units.
use Rattle.std.specs.Prelude.{ℕ, ◌+◌, Bool, ◌||◌, ◌==◌, nat_le, List, drop, length, map, take, if◌then◌else◌}
use Rattle.std.specs.List.{list_all}
use Rattle.sb_call.specs.declared.arguments.Arg.{Arg}
use Rattle.sb_call.specs.declared.arguments.Arg.TheVariants.{Num, Str}
use Rattle.sb_c.specs.declared.shapes.Argument.{Argument}

-- a string lies within the units
abbrev pub is_within : List ℕ → Argument → Bool
is_within units a = a.is_text == 0 || nat_le (a.start + a.length) (length units)

abbrev pub are_within : List ℕ → List Argument → Bool
are_within units arguments = list_all (is_within units) arguments

-- what an argument means
abbrev pub argument_meant : List ℕ → Argument → Arg
argument_meant units a = if a.is_text == 0 then Num a.number else Str (take a.length (drop a.start units))

abbrev pub arguments_meant : List ℕ → List Argument → List Arg
arguments_meant units arguments = map (argument_meant units) arguments
