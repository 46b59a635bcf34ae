-- What is true of all messages about arguments that are no command, or are not UTF-8.
use Rattle.std.specs.Prelude.{◌≡◌, ◌⊎◌, ℕ, List, Err}
use Rattle.sb_glyphs.specs.CleanTexts.{IsClean}
use Rattle.sb_commands.specs.Commands.{command_of}
use Rattle.sb_commands.specs.Usage.{Fault, NotUtf8}
use Rattle.sb_commands.specs.UsageMessages.{usage_message}

-- the message of arguments that are not UTF-8, or are no command, is clean, whatever the bytes of the arguments are
abbrev pub UsageMessagesAreClean : Type 0
UsageMessagesAreClean = (words : List (List ℕ)) (fault : Fault) → (fault ≡ NotUtf8) ⊎ (command_of words ≡ Err fault) → IsClean (usage_message fault words)
