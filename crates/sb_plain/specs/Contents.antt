-- What the files of a command hold, by their place in the command, and what is read of each.
use Rattle.std.specs.Prelude.{ℕ, nat_le, List, [], ◌∷◌, length, Option, None, Some, Result, Ok, Err, if◌then◌else◌}
use Rattle.sb_base.specs.declared.refusals.Refused.{Refused}
use Rattle.sb_base.specs.declared.refusals.Refused.TheVariants as given
use Rattle.sb_message.specs.declared.statuses.FileRefusal.TheVariants.{Missing, TooLong, ReadFault}
use Rattle.sb_message.specs.declared.statuses.Refusal.{Refusal}
use Rattle.sb_message.specs.declared.statuses.Refusal.TheVariants.{File, Text, NoMemory}
use Rattle.sb_message.specs.declared.text_faults.TextFault.{TextFault}
use Rattle.sb_message.specs.declared.text_faults.TextFault.TheVariants as fault
use Rattle.sb_outside.specs.declared.files.FileFault.{FileFault}
use Rattle.sb_outside.specs.declared.files.FileFault.TheVariants as file
use Rattle.sb_rule.specs.declared.policies.Policy.{Policy}
use Rattle.sb_ruletext.specs.PolicyTexts as policies
use Rattle.sb_scripttext.specs.ScheduleLimits as limits
use Rattle.sb_scripttext.specs.ScheduleLimits.{most_rounds}
use Rattle.sb_scripttext.specs.ScheduleTexts as schedules
use Rattle.sb_scripttext.specs.ScriptTexts as scripts
use Rattle.sb_statements.specs.declared.schedules.Schedule.{Schedule}
use Rattle.sb_statements.specs.declared.scripts.Script.{Script}
use Rattle.sb_text.specs.Lines.{line_numbered}
use Rattle.sb_text.specs.Steps.{◌>>=◌}
use Rattle.sb_text.specs.declared.refusals.LineFault.{LineFault}

-- ---- refusals

-- why a command is not carried out, and the line of a text to show with it
pub record ShownRefusal : Type 0 where
  pub why : Refusal
  pub shown : Option (List ℕ)

-- a refusal that shows no line
abbrev pub refused : Refusal → ShownRefusal
refused why = record { why = why; shown = None }

-- file n is missing
abbrev pub missing : ℕ → ShownRefusal
missing n = refused (File n Missing)

-- ---- files

-- the bytes of a file, if there is one
abbrev pub Content : Type 0
Content = Option (List ℕ)

-- the contents of a command's files, in their order in the command
abbrev pub Contents : Type 0
Contents = List Content

-- what file n holds
pub record FileContent : Type 0 where
  pub which : ℕ
  pub bytes : List ℕ

-- the most bytes that a file may have
abbrev pub most_bytes : ℕ
most_bytes = limits.most_bytes

-- file n by its content, if it has at most this many bytes
abbrev pub file_within : ℕ → ℕ → Content → Result FileContent ShownRefusal
file_within most n None = Err (missing n)
file_within most n (Some bytes) = if nat_le (length bytes) most then Ok (record { which = n; bytes = bytes }) else Err (refused (File n TooLong))

-- the same of each file but a transcript
abbrev pub file_in : ℕ → Content → Result FileContent ShownRefusal
file_in n content = file_within most_bytes n content

-- one file alone
abbrev pub alone : {A : Type 0} → ℕ → (Content → Result A ShownRefusal) → Contents → Result A ShownRefusal
alone n step (content ∷ []) = step content
alone n step _ = Err (missing n)

-- the refusal for what an environment tells of file n
abbrev pub refusal_of : FileFault → ℕ → Refusal
refusal_of file.Missing n = File n Missing
refusal_of file.TooLong n = File n TooLong
refusal_of (file.Failed cause) n = File n (ReadFault cause)
refusal_of file.NoMemory n = NoMemory

-- ---- texts

-- the text of a file is refused at this line, which is shown
abbrev pub refused_at : FileContent → ℕ → TextFault → ShownRefusal
refused_at text line fault = record { why = Text text.which fault; shown = line_numbered line text.bytes }

-- a text is refused as its reader refuses it
abbrev pub fault_refusal : {K : Type 0} → (LineFault K → TextFault) → FileContent → Refused (LineFault K) → ShownRefusal
fault_refusal told text (given.Fault fault) = refused_at text fault.line (told fault)
fault_refusal told text given.NoMemory = refused NoMemory

-- what is read of a text, or its fault
abbrev pub read_as : {A K : Type 0} → (LineFault K → TextFault) → FileContent → Result A (LineFault K) → Result A ShownRefusal
read_as told text (Ok x) = Ok x
read_as told text (Err fault) = Err (refused_at text fault.line (told fault))

-- the policies of a text
abbrev pub policies_of : FileContent → Result (List Policy) ShownRefusal
policies_of text = read_as fault.Policy text (policies.reading text.bytes)

-- the script of a text, for targets of these policies
abbrev pub script_of : List Policy → FileContent → Result Script ShownRefusal
script_of policies text = read_as fault.Script text (scripts.reading policies text.bytes)

-- the schedule of a text, for the actors of this script
abbrev pub schedule_in : Script → FileContent → Result Schedule ShownRefusal
schedule_in script text = read_as fault.Schedule text (schedules.reading script.targets text.bytes)

-- the schedule if no file is named: no steps, and as many rounds as a schedule may have
abbrev pub no_schedule : Schedule
no_schedule = record { steps = []; rounds = most_rounds }

-- the schedule of a text, if there is one
abbrev pub schedule_if : Script → Option FileContent → Result Schedule ShownRefusal
schedule_if script None = Ok no_schedule
schedule_if script (Some text) = schedule_in script text

-- ---- policies and a script

-- the policies of the first file
abbrev pub policies_in : Content → Result (List Policy) ShownRefusal
policies_in content = file_in 1 content >>= policies_of

-- the script of the second file, for targets of these policies
abbrev pub script_in : List Policy → Content → Result Script ShownRefusal
script_in policies content = file_in 2 content >>= script_of policies
