-- What arguments mean.
use Rattle.std.specs.Prelude.{◌≡◌, ℕ, List, [], Result, Ok, Err}
use Rattle.sb_commands.specs.Commands.{Command, files_of}
use Rattle.sb_commands.specs.NumberWords.{number_of}
use Rattle.sb_commands.specs.Usage.{Fault, Values}
use Rattle.sb_commands.specs.declared.works.PlainWork.{PlainWork}
use Rattle.sb_commands.specs.declared.works.PlainWork.TheVariants.{Audit, Check, Dup, Linked, Local, Replay}
use Rattle.sb_commands.specs.declared.works.ThreadedWork.{ThreadedWork}
use Rattle.sb_commands.specs.declared.works.ThreadedWork.TheVariants.{Make, Run}
use Rattle.sb_commands.specs.declared.works.Work.{Work}
use Rattle.sb_commands.specs.declared.works.Work.TheVariants as work
use Rattle.sb_statements.specs.declared.schedules.Schedule.{Schedule}
use Rattle.sb_plain.specs.Audit.{audit_end}
use Rattle.sb_plain.specs.Check.{check_end}
use Rattle.sb_plain.specs.Contents.{Contents, ShownRefusal}
use Rattle.sb_plain.specs.Dup.{dup_end}
use Rattle.sb_plain.specs.Effects.{Effect}
use Rattle.sb_plain.specs.Endings.{IsEnding, IsUsageEnding}
use Rattle.sb_plain.specs.Ends.{End, Meaning, OnThreads, Plain}
use Rattle.sb_plain.specs.Linked.{linked_end}
use Rattle.sb_plain.specs.Local.{local_end}
use Rattle.sb_top.specs.Make.{make_end}
use Rattle.sb_plain.specs.Replay.{replay_end}
use Rattle.sb_plain.specs.ScriptEnds.{IsOne, IsWithScript, is_named, is_not_named, may_be_named}
use Rattle.sb_top.specs.Run.{threads_end}
use Rattle.sb_plain.specs.declared.outcomes.Outcome.{Outcome}

-- What each command means that runs without threads. A command that is added has one line here
abbrev pub plain_meaning : PlainWork → Contents → Result End ShownRefusal
plain_meaning Check = check_end
plain_meaning Replay = replay_end
plain_meaning Linked = linked_end
plain_meaning Dup = dup_end
plain_meaning Local = local_end
plain_meaning Audit = audit_end

-- and each that runs on threads, by the values of its arguments, for each order of steps
abbrev pub threaded_meaning : ThreadedWork → Values → Schedule → Contents → Result End ShownRefusal
threaded_meaning Run values = threads_end
threaded_meaning Make values = make_end (number_of values.first) (number_of values.second) (number_of values.third)

-- the files of a command are as many as it reads
abbrev pub HasFiles : {A : Type 0} → PlainWork → List A → Type 0
HasFiles Check files = IsOne files
HasFiles Replay files = IsWithScript may_be_named files
HasFiles Linked files = IsWithScript is_named files
HasFiles Dup files = IsWithScript is_named files
HasFiles Local files = IsWithScript may_be_named files
HasFiles Audit files = IsWithScript is_named files

abbrev pub HasThreadedFiles : {A : Type 0} → ThreadedWork → List A → Type 0
HasThreadedFiles Run files = IsWithScript is_not_named files
HasThreadedFiles Make files = files ≡ []

-- what a command means
abbrev pub meaning_by : Work → Values → Meaning
meaning_by (work.Plain plain) values = Plain (plain_meaning plain)
meaning_by (work.Threaded threaded) values = OnThreads (threaded_meaning threaded values)

abbrev pub meaning_of : Command → Meaning
meaning_of command = meaning_by command.work command.values

-- How arguments end: a command as it means over the contents of its files, and arguments that are no command with their first fault
abbrev pub EndsAsMeant : {G S : Type 0} → Result Command Fault → Effect G S → Outcome → Type 0
EndsAsMeant (Ok command) e o = IsEnding (meaning_of command) (files_of command) e o
EndsAsMeant (Err fault) e o = IsUsageEnding fault e o

-- the names of the files of arguments; without a command there are none
abbrev pub files_for : Result Command Fault → List (List ℕ)
files_for (Ok command) = files_of command
files_for (Err fault) = []
