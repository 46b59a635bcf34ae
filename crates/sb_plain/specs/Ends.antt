-- How commands end: what each means, as a function of the contents of its files.
use Rattle.std.specs.Prelude.{◌≡◌, ⊤, ℕ, ◌-◌, List, [], ◌∷◌, Option, None, Some, option_map, IfSome, Result, slice_set}
use Rattle.sb_book.specs.declared.reports.Report.{Report}
use Rattle.sb_core.specs.Runs.{CanRun}
use Rattle.sb_core.specs.declared.runs.Ran.{Ran}
use Rattle.sb_message.specs.declared.statuses.EndStatus.{EndStatus}
use Rattle.sb_outside.specs.Outside.{Held}
use Rattle.sb_rule.specs.declared.policies.Policy.{Policy}
use Rattle.sb_statements.specs.declared.schedules.Schedule.{Schedule}
use Rattle.sb_statements.specs.declared.scripts.Script.{Script}
use Rattle.sb_plain.specs.Contents.{Content, Contents, ShownRefusal}

-- a run of a script under policies
pub record ScriptRun : Type 0 where
  pub policies : List Policy
  pub script : Script
  pub ran : Ran

-- how a command ends that is not refused: what it writes, if anything is put; its status after that; its run, if it makes one; and the policy text whose notes are
-- told, if it has them told
pub record End : Type 0 where
  pub text : Option (List ℕ)
  pub status : EndStatus
  pub run : Option ScriptRun
  pub notes : Option (List ℕ)

-- the report of an end is that of its run
abbrev pub report_of : End → Option Report
report_of end = option_map (λ run. run.ran.report) end.run

-- What a command means. Most commands have one end, by the contents of their files. A command that runs on threads ends as a run by some order of steps does,
-- which is given as a schedule
pub data Meaning : Type 0 where
  Plain : (Contents → Result End ShownRefusal) → Meaning
  OnThreads : (Schedule → Contents → Result End ShownRefusal) → Meaning

-- the schedule is an order of steps of the run's actors, without rounds, that leaves no thread unfinished
pub record IsOrder (order : Schedule) (run : ScriptRun) : Type 0 where
  pub can : CanRun run.policies run.script order
  pub no_rounds : order.rounds ≡ 0
  pub finished : run.ran.unfinished ≡ None

-- so it is for the run of an end
abbrev pub IsOrderOf : Schedule → End → Type 0
IsOrderOf order end = IfSome end.run (IsOrder order)

-- this is what the files hold under the name, if that is known
abbrev pub IsHeld : Option Held → List ℕ → Content → Type 0
IsHeld None name content = ⊤
IsHeld (Some held) name content = content ≡ held name

-- each of these contents is held under its name, if that is known
abbrev pub AreContents : Option Held → List (List ℕ) → Contents → Type 0
AreContents held [] [] = ⊤
AreContents held (name ∷ names) (content ∷ contents) = IsHeld held name content × AreContents held names contents
AreContents held _ _ = ⊥

-- the contents as they are if there is no file n, of files that are numbered from the first
abbrev pub without_from : ℕ → ℕ → Contents → Contents
without_from first n contents = slice_set contents (n - first) None

-- the contents as they are if there is no file n
abbrev pub without : ℕ → Contents → Contents
without n contents = without_from 1 n contents
