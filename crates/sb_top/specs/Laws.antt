-- Laws of how commands end over files whose contents are known.
use Rattle.std.specs.Prelude.{◌≡◌, ◌≢◌, ◌⊎◌, ℕ, ◌≤◌, List, length, map, Some, IfOk, IfSome, Result, Err}
use Rattle.sb_commands.specs.Commands.{Command}
use Rattle.sb_commands.specs.Usage.{Fault, fault_of}
use Rattle.sb_commands.specs.declared.usage_faults.UsageFault.{UsageFault}
use Rattle.sb_outside.specs.Outside.{Held, Rose}
use Rattle.sb_outside.specs.declared.files.ReadCause.{ReadCause}
use Rattle.sb_message.specs.declared.statuses.FileRefusal.TheVariants.{ReadFault}
use Rattle.sb_message.specs.declared.statuses.Refusal.TheVariants.{File, NoMemory, Usage}
use Rattle.sb_message.specs.declared.statuses.Status.TheVariants.{Refused}
use Rattle.sb_plain.specs.Contents.{Contents, refused}
use Rattle.sb_plain.specs.Effects.{Effect}
use Rattle.sb_plain.specs.Endings.{IsEnding, IsMeant, IsRefused}
use Rattle.sb_plain.specs.Ends.{IsOrderOf, Meaning, OnThreads, Plain}
use Rattle.sb_plain.specs.Outcomes.{file_of}
use Rattle.sb_statements.specs.declared.schedules.Schedule.{Schedule}
use Rattle.sb_top.specs.Top.{EndsAsMeant, files_for}
use Rattle.sb_plain.specs.declared.outcomes.Outcome.{Outcome}

-- the contents of the files of these names, by what is held
abbrev pub contents_of : Held → List (List ℕ) → Contents
contents_of held names = map held names

-- all is as a command of this meaning means it over these contents; if it runs on threads, for some order of steps of the run's actors that leaves no thread
-- unfinished
abbrev pub IsMeantBy : {G S : Type 0} → Meaning → Contents → Effect G S → Outcome → Type 0
IsMeantBy (Plain meaning) contents e o = IsMeant (meaning contents) e o
IsMeantBy (OnThreads meaning) contents e o =
    (order : Schedule) × IfOk (meaning order contents) (IsOrderOf order) × IsMeant (meaning order contents) e o

module _ (G S : Type 0) where
  -- if neither count of faults rose, a command ends as it means over what is held, if there was memory
  abbrev pub WorkComesToItsEnd : Type 0
  WorkComesToItsEnd = (meaning : Meaning) (names : List (List ℕ)) (held : Held) (e : Effect G S) (o : Outcome)
      → IsEnding meaning names e o → e.held ≡ Some held → (Rose e.reads e.reads' → ⊥) → (Rose e.puts e.puts' → ⊥)
      → IsMeantBy meaning (contents_of held names) e o ⊎ IsRefused (refused NoMemory) e o

  -- a status that names a file, except that it was not read, is that of the refusal, or the end, which the command means over what is held
  abbrev pub RefusalsAreMeant : Type 0
  RefusalsAreMeant = (meaning : Meaning) (names : List (List ℕ)) (held : Held) (e : Effect G S) (o : Outcome) (n : ℕ)
      → IsEnding meaning names e o → e.held ≡ Some held → file_of o.status ≡ Some n → ((m : ℕ) (cause : ReadCause) → o.status ≢ Refused (File m (ReadFault cause)))
      → IsMeantBy meaning (contents_of held names) e o

-- arguments that end with Usage are no command, and this is their fault; and a status that names a file names one of the command
unfoldable pub StatusesAreOfCommands : Type 0 → Type 0 → Type 0
StatusesAreOfCommands G S = (wanted : Result Command Fault) (e : Effect G S) (o : Outcome) → EndsAsMeant wanted e o
    → ((fault : UsageFault) → o.status ≡ Refused (Usage fault) → wanted ≡ Err (fault_of fault))
    × IfSome (file_of o.status) (λ n. (1 ≤ n) × (n ≤ length (files_for wanted)))
