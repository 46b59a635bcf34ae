-- What reading files and carrying out a command give, before anything is put.
use Rattle.std.specs.Prelude.{◌≡◌, ◌≤◌, ◌⊎◌, ⊤, ℕ, List, Option, None, Some, IfOk, IsOk, IsOkAnd, OnOk, Result, Ok, Err}
use Rattle.sb_book.specs.declared.reports.Report.{Report}
use Rattle.sb_core.specs.declared.runs.Ran.{Ran}
use Rattle.sb_message.specs.declared.statuses.EndStatus.{EndStatus}
use Rattle.sb_message.specs.declared.statuses.FileRefusal.TheVariants.{ReadFault}
use Rattle.sb_message.specs.declared.statuses.Refusal.{Refusal}
use Rattle.sb_message.specs.declared.statuses.Refusal.TheVariants.{File, NoMemory}
use Rattle.sb_outside.specs.Outside.{Held, Rose}
use Rattle.sb_outside.specs.declared.files.ReadCause.{ReadCause}
use Rattle.sb_statements.specs.declared.schedules.Schedule.{Schedule}
use Rattle.sb_statements.specs.declared.scripts.Script.{Script}
use Rattle.sb_plain.specs.Contents.{Contents, ShownRefusal, missing, refused}
use Rattle.sb_plain.specs.Ends.{AreContents, End, IsOrderOf, Meaning, OnThreads, Plain, report_of, without_from}
use Rattle.sb_plain.specs.Endings.{IsCaused}
use Rattle.sb_plain.specs.Replay.{run_status, run_text}

-- ---- ends

-- an end with the report of its run
pub record ReportedEnd : Type 0 where
  pub text : Option (List ℕ)
  pub status : EndStatus
  pub report : Option Report
  pub notes : Option (List ℕ)

abbrev pub reported : End → ReportedEnd
reported end = record { text = end.text; status = end.status; report = report_of end; notes = end.notes }

-- the end of a run of this script: it puts its transcript if no thread is unfinished
abbrev pub reported_run : Script → Ran → ReportedEnd
reported_run script r = record { text = run_text script r r.unfinished; status = run_status r.unfinished; report = Some r.report; notes = None }

-- ---- pure stages

-- what is wanted was given, as it is seen by this function, or refused; or there was no memory
abbrev pub Gives : {A B : Type 0} → (B → A) → Result A ShownRefusal → Result B ShownRefusal → Type 0
Gives seen wanted (Ok x) = wanted ≡ Ok (seen x)
Gives seen wanted (Err refusal) = (wanted ≡ Err refusal) ⊎ (refusal ≡ refused NoMemory)

-- an end that is wanted was given, with the report of its run; or its refusal; or there was no memory
abbrev pub GivesEnd : Result End ShownRefusal → Result ReportedEnd ShownRefusal → Type 0
GivesEnd wanted (Ok found) = IsOkAnd wanted (λ end. found ≡ reported end)
GivesEnd wanted (Err refusal) = (wanted ≡ Err refusal) ⊎ (refusal ≡ refused NoMemory)

-- an end that was made, or that there was no memory for it
abbrev pub end_or_refusal : {E : Type 0} → Result ReportedEnd E → Result ReportedEnd ShownRefusal
end_or_refusal (Ok end) = Ok end
end_or_refusal (Err error) = Err (refused NoMemory)

-- ---- files

-- the refusal comes of a file that was reached and could not be read; files are numbered from the first
abbrev pub IsUnreadFor : {A : Type 0} → ℕ → (Contents → Result A ShownRefusal) → Contents → ShownRefusal → Type 0
IsUnreadFor first meaning contents refusal =
    (file : ℕ) × ((cause : ReadCause) × (refusal ≡ refused (File file (ReadFault cause)))) × (meaning (without_from first file contents) ≡ Err (missing file))

-- over files with these contents: what is meant, as it is seen by this function, or its refusal; or a file was not read, or there was no memory
abbrev pub IsFoundFor : {A B : Type 0} → (A → B) → ℕ → (Contents → Result A ShownRefusal) → Contents → Result B ShownRefusal → Type 0
IsFoundFor seen first meaning contents (Ok found) = IsOkAnd (meaning contents) (λ x. found ≡ seen x)
IsFoundFor seen first meaning contents (Err refusal) =
    (meaning contents ≡ Err refusal) ⊎ IsUnreadFor first meaning contents refusal ⊎ (refusal ≡ refused NoMemory)

-- so it is for some contents that the files of these names are known to hold
pub record IsFound {A B : Type 0} (seen : A → B) (first : ℕ) (meaning : Contents → Result A ShownRefusal) (names : List (List ℕ)) (held : Option Held) (found : Result B ShownRefusal) : Type 0 where
  pub contents : Contents
  pub are : AreContents held names contents
  pub is : IsFoundFor seen first meaning contents found

-- a refusal has its cause
abbrev pub IsCausedBy : {A : Type 0} → Option Held → Type 0 → Result A ShownRefusal → Type 0
IsCausedBy held rose (Ok x) = ⊤
IsCausedBy held rose (Err refusal) = IsCaused held rose refusal.why

-- a refusal of what was read comes of no file
abbrev pub IsOfText : Refusal → Type 0
IsOfText (File n why) = ⊥
IsOfText refusal = ⊤

-- What a call does to the files that it is given, by what they tell of themselves. What they hold stays. Their count of faults does not fall, nor does it rise if a
-- value was given. And a refusal has its cause
pub record KeepsFiles {G A : Type 0} (held : G → Option Held) (faults : G → ℕ) (files files' : G) (result : Result A ShownRefusal) : Type 0 where
  pub kept : held files' ≡ held files
  pub counted : faults files ≤ faults files'
  pub ok_count : OnOk result (faults files' ≡ faults files)
  pub caused : IsCausedBy (held files) (Rose (faults files) (faults files')) result

-- ---- commands

-- a command of this meaning comes to this over files of these names; one that runs on threads does for some order of steps
pub record IsFoundOnThreads (meaning : Schedule → Contents → Result End ShownRefusal) (names : List (List ℕ)) (held : Option Held) (found : Result ReportedEnd ShownRefusal) : Type 0 where
  pub order : Schedule
  pub contents : Contents
  pub are : AreContents held names contents
  pub ordered : IsOk found → IfOk (meaning order contents) (IsOrderOf order)
  pub is : IsFoundFor reported 1 (meaning order) contents found

abbrev pub IsFoundBy : Meaning → List (List ℕ) → Option Held → Result ReportedEnd ShownRefusal → Type 0
IsFoundBy (Plain meaning) names held found = IsFound reported 1 meaning names held found
IsFoundBy (OnThreads meaning) names held found = IsFoundOnThreads meaning names held found
