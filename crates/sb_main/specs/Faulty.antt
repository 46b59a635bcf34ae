-- Arguments that are nothing that the program does.
use Rattle.std.specs.Prelude.{◌≡◌, ℕ, List, None, Err}
use Rattle.sb_commands.specs.Commands.{command_of}
use Rattle.sb_commands.specs.Inquiries.{asked_of}
use Rattle.sb_commands.specs.Usage.{Fault}

-- the arguments ask nothing of the program itself, and are no command, because of this fault
abbrev pub IsFaulty : Fault → List (List ℕ) → Type 0
IsFaulty fault words = (asked_of words ≡ None) × (command_of words ≡ Err fault)
