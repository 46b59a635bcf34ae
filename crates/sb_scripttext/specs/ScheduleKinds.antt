-- The faults of schedule texts.
use Rattle.std.specs.Prelude.{ℕ}
use Rattle.sb_scripttext.specs.declared.schedule_faults.ScheduleKind.{ScheduleKind}
use Rattle.sb_scripttext.specs.declared.schedule_faults.ScheduleKind.TheVariants.{UnknownWord, UnknownActor, BadNumber, OutOfRange, TooMany, NoRounds}

-- the number of a kind of fault
abbrev pub kind_number : ScheduleKind → ℕ
kind_number (UnknownWord why) = 1
kind_number UnknownActor = 2
kind_number BadNumber = 3
kind_number (OutOfRange low high) = 3
kind_number TooMany = 4
kind_number NoRounds = 5
