-- What is written on standard error for the end of a command.
use Rattle.std.specs.Prelude.{◌≡◌, ℕ, nat_lt, List, [], ◌∷◌, ◌++◌, Option, None, Some, codes, if◌then◌else◌}
use Rattle.sb_commands.specs.Commands.{name_at}
use Rattle.sb_commands.specs.Usage.{fault_of}
use Rattle.sb_commands.specs.UsageMessages.{usage_message}
use Rattle.sb_glyphs.specs.Glyphs.{shown_bytes}
use Rattle.sb_outside.specs.declared.files.ReadCause.{ReadCause}
use Rattle.sb_outside.specs.declared.files.ReadCause.TheVariants as said
use Rattle.sb_outside.specs.declared.sink.SinkFault.{SinkFault}
use Rattle.sb_outside.specs.declared.sink.SinkFault.TheVariants.{Closed, Full, Failed}
use Rattle.sb_text.specs.MissingTexts.{or_empty}
use Rattle.sb_message.specs.AuditMessages.{audit_message}
use Rattle.sb_message.specs.LinkMessages.{IsLinkMessage}
use Rattle.sb_message.specs.MoveMessages.{IsMoveMessage}
use Rattle.sb_message.specs.NoteMessages.{notes_message}
use Rattle.sb_message.specs.PolicyMessages.{IsPolicyMessage}
use Rattle.sb_message.specs.ScheduleMessages.{IsScheduleMessage}
use Rattle.sb_message.specs.ScriptMessages.{IsScriptMessage}
use Rattle.sb_message.specs.Statuses.{line_of}
use Rattle.sb_message.specs.declared.statuses.FileRefusal.{FileRefusal}
use Rattle.sb_message.specs.declared.statuses.FileRefusal.TheVariants.{Missing, TooLong, ReadFault}
use Rattle.sb_message.specs.declared.statuses.Refusal.{Refusal}
use Rattle.sb_message.specs.declared.statuses.Refusal.TheVariants.{Usage, File, Text, TooComplex, NoMemory}
use Rattle.sb_message.specs.declared.statuses.Status.{Status}
use Rattle.sb_message.specs.declared.statuses.Status.TheVariants.{Done, Differs, Unfinished, WriteFault, Refused}
use Rattle.sb_message.specs.declared.text_faults.TextFault.{TextFault}
use Rattle.sb_message.specs.declared.text_faults.TextFault.TheVariants.{Policy, Script, Schedule, Links, Moves, Transcript}

-- a message of one line: what is told of the status, and words around some bytes as they are shown
abbrev pub line_message : Status → List ℕ → List ℕ → List ℕ → List ℕ
line_message status before named after = line_of status ++ before ++ shown_bytes named ++ after ++ 10 ∷ []

-- the same with words alone
abbrev pub word_message : Status → List ℕ → List ℕ
word_message status words = line_message status words [] []

-- what the system says of a file that cannot be read
abbrev pub cause_words : ReadCause → List ℕ
cause_words said.Directory = codes " cannot be read: it is a directory"
cause_words said.Denied = codes " cannot be read: permission denied"
cause_words said.NoDirectory = codes " cannot be read: a part of its path is no directory"
cause_words said.Loop = codes " cannot be read: its path has too many links"
cause_words said.Other = codes " cannot be read"

-- how many bytes a file may have: the third of a command may be a transcript
abbrev pub length_words : ℕ → List ℕ
length_words which = if nat_lt which 3 then codes " has more than 4194304 bytes" else codes " has more than 4194304 bytes, or as a transcript more than 536870912"

-- what is wrong with a file of this number that was not read
abbrev pub file_words : ℕ → FileRefusal → List ℕ
file_words which Missing = codes " does not exist"
file_words which TooLong = length_words which
file_words which (ReadFault cause) = cause_words cause

-- a text is a message of the fault of a text of a file of this name, where this line of it is shown: what was wrong, the place, and the line
abbrev pub IsFaultMessage : List ℕ → TextFault → Option (List ℕ) → List ℕ → Type 0
IsFaultMessage file (Policy fault) shown text = IsPolicyMessage file fault (or_empty shown) text
IsFaultMessage file (Script fault) shown text = IsScriptMessage file fault (or_empty shown) text
IsFaultMessage file (Schedule fault) shown text = IsScheduleMessage file fault (or_empty shown) text
IsFaultMessage file (Links fault) shown text = IsLinkMessage file fault (or_empty shown) text
IsFaultMessage file (Moves fault) shown text = IsMoveMessage file fault (or_empty shown) text
IsFaultMessage file (Transcript refuted) shown text = text ≡ audit_message file refuted shown

-- a text is a message of why a command with files of these names was not carried out. For a fault of the arguments these are told too
abbrev pub IsRefusalMessage : List (List ℕ) → List (List ℕ) → Refusal → Option (List ℕ) → List ℕ → Type 0
IsRefusalMessage words names (Usage fault) shown text = text ≡ usage_message (fault_of fault) words
IsRefusalMessage words names (File which why) shown text =
    text ≡ line_message (Refused (File which why)) (codes ": ") (name_at which names) (file_words which why)
IsRefusalMessage words names (Text which fault) shown text = IsFaultMessage (name_at which names) fault shown text
IsRefusalMessage words names (TooComplex call) shown text = text ≡ line_message (Refused (TooComplex call)) (codes " of ") (or_empty shown) []
IsRefusalMessage words names NoMemory shown text = text ≡ word_message (Refused NoMemory) (codes ": out of memory")

-- the notes of a policy text in the file of this name, if they are told
abbrev pub notes_by : List ℕ → Option (List ℕ) → List ℕ
notes_by name None = []
notes_by name (Some text) = notes_message name text

-- why an output was not written; nothing if its reader has closed it
abbrev pub write_message : SinkFault → List ℕ
write_message Closed = []
write_message Full = word_message (WriteFault Full) (codes ": standard output is full, and does not wait")
write_message Failed = word_message (WriteFault Failed) (codes ": standard output cannot be written")

-- a text is one that is written on standard error for a status of a command with files of these names, where this line of a text is shown, or these notes
abbrev pub IsMessageOf : List (List ℕ) → List (List ℕ) → Status → Option (List ℕ) → List ℕ → Type 0
IsMessageOf words names Done shown text = text ≡ notes_by (name_at 1 names) shown
IsMessageOf words names (Differs difference) shown text = text ≡ word_message (Differs difference) []
IsMessageOf words names (Unfinished target thread) shown text = text ≡ word_message (Unfinished target thread) (codes ": the thread did not end")
IsMessageOf words names (WriteFault fault) shown text = text ≡ write_message fault
IsMessageOf words names (Refused refusal) shown text = IsRefusalMessage words names refusal shown text
