-- The values that the program found.
use Rattle.std.specs.Prelude.{option_map}
use Rattle.sb_commands.specs.Usage.{Values}
use Rattle.sb_commands.specs.declared.command_line.CommandValues.{CommandValues}

abbrev pub values_of : CommandValues → Values
values_of v = record {
  first = v.first.now;
  second = v.second.now;
  third = v.third.now;
  last = option_map (λ name. name.now) v.last;
  first_option = v.first_option;
  second_option = v.second_option;
}
