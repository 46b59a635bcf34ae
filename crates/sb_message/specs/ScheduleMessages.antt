-- The messages of schedule texts.
use Rattle.std.specs.Prelude.{ℕ, Bool, true, false, List, [], ◌∷◌}
use Rattle.sb_scripttext.specs.ScheduleKinds.{kind_number}
use Rattle.sb_scripttext.specs.ScheduleTexts.{ScheduleFault}
use Rattle.sb_scripttext.specs.declared.schedule_faults.ScheduleKind.{ScheduleKind}
use Rattle.sb_scripttext.specs.declared.schedule_faults.ScheduleKind.TheVariants.{UnknownWord, UnknownActor, BadNumber, OutOfRange, TooMany, NoRounds}
use Rattle.sb_text.specs.declared.refusals.WordFault.TheVariants.{Misplaced}
use Rattle.sb_message.specs.declared.messages.FaultyText.TheVariants.{Schedule}
use Rattle.sb_message.specs.Causes.{names_word}
use Rattle.sb_message.specs.Messages.{IsMessage}

-- the numbers between the words: a range
abbrev pub schedule_numbers : ScheduleKind → List ℕ
schedule_numbers (OutOfRange low high) = low ∷ high ∷ []
schedule_numbers _ = []

-- whether the words name the token
abbrev pub schedule_names : ScheduleKind → Bool
schedule_names (UnknownWord Misplaced) = false
schedule_names (UnknownWord fault) = names_word fault
schedule_names UnknownActor = true
schedule_names BadNumber = true
schedule_names (OutOfRange low high) = true
schedule_names TooMany = false
schedule_names NoRounds = false

-- a text is a message of a fault of a schedule file of this name, with the line that has it
abbrev pub IsScheduleMessage : List ℕ → ScheduleFault → List ℕ → List ℕ → Type 0
IsScheduleMessage file fault line text =
    IsMessage (record { text = Schedule; line = fault.line; column = fault.column; kind = kind_number fault.kind })
    (schedule_numbers fault.kind) (schedule_names fault.kind) file line text
