-- How a call ends that carries out a command, by what the command means.
use Rattle.std.specs.Prelude.{◌≡◌, ◌⊎◌, ⊤, ℕ, List, ◌++◌, Option, None, Some, IfOk, IsOkAnd, IsSome, Result, Ok, Err}
use Rattle.sb_commands.specs.Usage.{Fault, fault_of}
use Rattle.sb_commands.specs.declared.usage_faults.UsageFault.{UsageFault}
use Rattle.sb_message.specs.Statuses.{status_of}
use Rattle.sb_message.specs.declared.statuses.EndStatus.{EndStatus}
use Rattle.sb_message.specs.declared.statuses.FileRefusal.TheVariants.{Missing, TooLong, ReadFault}
use Rattle.sb_message.specs.declared.statuses.Refusal.{Refusal}
use Rattle.sb_message.specs.declared.statuses.Refusal.TheVariants.{File, NoMemory, Usage}
use Rattle.sb_message.specs.declared.statuses.Status.{Status}
use Rattle.sb_message.specs.declared.statuses.Status.TheVariants.{Refused, WriteFault}
use Rattle.sb_outside.specs.Outside.{GrowsBy, GrowsByPrefix, Held, Rose}
use Rattle.sb_outside.specs.declared.files.ReadCause.{ReadCause}
use Rattle.sb_outside.specs.declared.sink.SinkFault.{SinkFault}
use Rattle.sb_statements.specs.declared.schedules.Schedule.{Schedule}
use Rattle.sb_plain.specs.Contents.{Contents, ShownRefusal, missing, refused}
use Rattle.sb_plain.specs.Effects.{Effect}
use Rattle.sb_plain.specs.Ends.{AreContents, End, IsOrderOf, Meaning, OnThreads, Plain, report_of, without}
use Rattle.sb_plain.specs.declared.outcomes.Outcome.{Outcome}

-- the output grew by what was pending and then by this text; or there is none, and the output is as it was
abbrev pub IsWritten : {G S : Type 0} → Option (List ℕ) → Effect G S → Type 0
IsWritten (Some text) e = GrowsBy e.written (e.pending ++ text) e.written'
IsWritten None e = e.out' ≡ e.out

-- the command came to this end
pub record IsDone {G S : Type 0} (end : End) (e : Effect G S) (o : Outcome) : Type 0 where
  pub status : o.status ≡ status_of end.status
  pub written : IsWritten end.text e
  pub report : o.report ≡ report_of end
  pub shown : o.shown ≡ end.notes

-- it was refused for this: there is no report, and nothing was written
pub record IsRefused {G S : Type 0} (refusal : ShownRefusal) (e : Effect G S) (o : Outcome) : Type 0 where
  pub status : o.status ≡ Refused refusal.why
  pub report : o.report ≡ None
  pub shown : o.shown ≡ refusal.shown
  pub written : e.written' ≡ e.written

-- all is as the command means it
abbrev pub IsMeant : {G S : Type 0} → Result End ShownRefusal → Effect G S → Outcome → Type 0
IsMeant (Ok end) e o = IsDone end e o
IsMeant (Err refusal) e o = IsRefused refusal e o

-- file n was reached, and could not be read: were it missing, the command would be refused for that
pub record IsUnread {G S : Type 0} (meaning : Contents → Result End ShownRefusal) (contents : Contents) (e : Effect G S) (o : Outcome) : Type 0 where
  pub file : ℕ
  pub reached : meaning (without file contents) ≡ Err (missing file)
  pub cause : ReadCause
  pub is : IsRefused (refused (File file (ReadFault cause))) e o

-- the output failed where the text of this end was due, and a prefix of what was due was written. Its count of faults rose
pub record IsUnwritten {G S : Type 0} (end : End) (e : Effect G S) (o : Outcome) : Type 0 where
  pub text : List ℕ
  pub due : end.text ≡ Some text
  pub fault : SinkFault
  pub status : o.status ≡ WriteFault fault
  pub report : o.report ≡ report_of end
  pub shown : o.shown ≡ end.notes
  pub written : GrowsByPrefix e.written (e.pending ++ text) e.written'
  pub rose : Rose e.puts e.puts'

-- over files with these contents: all is as the command means it, or a file was not read, or the output failed, or there was no memory
abbrev pub IsEndFor : {G S : Type 0} → (Contents → Result End ShownRefusal) → Contents → Effect G S → Outcome → Type 0
IsEndFor meaning contents e o =
    IsMeant (meaning contents) e o
    ⊎ IsUnread meaning contents e o
    ⊎ IsOkAnd (meaning contents) (λ end. IsUnwritten end e o)
    ⊎ IsRefused (refused NoMemory) e o

-- if it is not known what the files hold, this
abbrev pub IfUnknown : Option Held → Type 0 → Type 0
IfUnknown None P = P
IfUnknown (Some held) P = ⊤

-- that a file was not read comes only if the files' count of faults rose; and so does that one is missing or too long, if it is not known what they hold
abbrev pub IsCaused : Option Held → Type 0 → Refusal → Type 0
IsCaused held rose (File n (ReadFault cause)) = rose
IsCaused held rose (File n why) = IfUnknown held rose
IsCaused held rose refusal = ⊤

-- the refusal of an outcome, if it is one, has its cause
abbrev pub IsOutcomeCaused : Option Held → Type 0 → Status → Type 0
IsOutcomeCaused held rose (Refused refusal) = IsCaused held rose refusal
IsOutcomeCaused held rose status = ⊤

-- Files of these names have some contents, those that they are known to hold, over which the command ends so
pub record IsPlainEnding {G S : Type 0} (meaning : Contents → Result End ShownRefusal) (names : List (List ℕ)) (e : Effect G S) (o : Outcome) : Type 0 where
  pub contents : Contents
  pub held : AreContents e.held names contents
  pub ends : IsEndFor meaning contents e o
  pub caused : IsOutcomeCaused e.held (Rose e.reads e.reads') o.status

-- And there is an order of steps by which it does
pub record IsThreadedEnding {G S : Type 0} (meaning : Schedule → Contents → Result End ShownRefusal) (names : List (List ℕ)) (e : Effect G S) (o : Outcome) : Type 0 where
  pub order : Schedule
  pub contents : Contents
  pub held : AreContents e.held names contents
  pub ordered : IsSome o.report → IfOk (meaning order contents) (IsOrderOf order)
  pub ends : IsEndFor (meaning order) contents e o
  pub caused : IsOutcomeCaused e.held (Rose e.reads e.reads') o.status

-- how a command of this meaning ends
abbrev pub IsEnding : {G S : Type 0} → Meaning → List (List ℕ) → Effect G S → Outcome → Type 0
IsEnding (Plain meaning) names e o = IsPlainEnding meaning names e o
IsEnding (OnThreads meaning) names e o = IsThreadedEnding meaning names e o

-- arguments that have this fault are refused for it
pub record IsUsageEnding {G S : Type 0} (fault : Fault) (e : Effect G S) (o : Outcome) : Type 0 where
  pub found : UsageFault
  pub same : fault_of found ≡ fault
  pub is : IsRefused (refused (Usage found)) e o
