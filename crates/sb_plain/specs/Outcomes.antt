-- What a status tells.
use Rattle.std.specs.Prelude.{ℕ, Option, None, Some, ⊤}
use Rattle.sb_message.specs.declared.statuses.Refusal.TheVariants.{File, Text}
use Rattle.sb_message.specs.declared.statuses.Status.{Status}
use Rattle.sb_message.specs.declared.statuses.Status.TheVariants.{Done, Differs, Refused}

-- the file that a status names, by its place in the command
abbrev pub file_of : Status → Option ℕ
file_of (Refused (File n why)) = Some n
file_of (Refused (Text n fault)) = Some n
file_of s = None

-- nothing is put with this status
abbrev pub IsSilent : Status → Type 0
IsSilent (Refused refusal) = ⊤
IsSilent s = ⊥

-- all that is due was put with this status
abbrev pub IsWhole : Status → Type 0
IsWhole Done = ⊤
IsWhole (Differs difference) = ⊤
IsWhole s = ⊥
