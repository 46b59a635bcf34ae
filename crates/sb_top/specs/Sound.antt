-- What is said of the run of each command.
use Rattle.sb_commands.specs.Commands.{Command}
use Rattle.sb_plain.specs.Sound.{AreEndsSound}
use Rattle.sb_top.specs.Top.{meaning_of}

-- so it is for each command
abbrev pub ReportsAreSound : Type 0
ReportsAreSound = (command : Command) → AreEndsSound (meaning_of command)
