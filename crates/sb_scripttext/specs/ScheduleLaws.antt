-- What is true of all schedule texts.
use Rattle.std.specs.Prelude.{◌≡◌, ◌≤◌, ℕ, Bool, true, false, List, ◌++◌, length, Ok, Err}
use Rattle.std.specs.List.{list_all}
use Rattle.sb_statements.specs.Actors.{is_step_there}
use Rattle.sb_scripttext.specs.ScheduleDrafts.{step_count}
use Rattle.sb_scripttext.specs.ScheduleLimits.{most_steps, most_rounds}
use Rattle.sb_scripttext.specs.ScheduleTexts.{ScheduleFault, reading}
use Rattle.sb_scripttext.specs.declared.schedule_faults.ScheduleKind.{ScheduleKind}
use Rattle.sb_scripttext.specs.declared.schedule_faults.ScheduleKind.TheVariants.{NoRounds}
use Rattle.sb_statements.specs.declared.schedules.Schedule.{Schedule}
use Rattle.sb_statements.specs.declared.scripts.TargetScript.{TargetScript}
use Rattle.sb_text.specs.LineLaws.{ended, is_line}
use Rattle.sb_text.specs.Lines.{raw_lines, lines_of, is_skipped, without_cr}
use Rattle.sb_text.specs.Readings.{is_some_line, renumbered, behind}

-- each actor of a schedule that is read is there
abbrev pub ActorsAreThere : Type 0
ActorsAreThere = (targets : List TargetScript) (text : List ℕ) (schedule : Schedule) → reading targets text ≡ Ok schedule
    → list_all (is_step_there targets) schedule.steps ≡ true

-- its steps are at most 100,000
abbrev pub StepsAreCounted : Type 0
StepsAreCounted = (targets : List TargetScript) (text : List ℕ) (schedule : Schedule) → reading targets text ≡ Ok schedule
    → step_count schedule.steps ≤ most_steps

-- and its rounds at most 20,000,000
abbrev pub RoundsAreCounted : Type 0
RoundsAreCounted = (targets : List TargetScript) (text : List ℕ) (schedule : Schedule) → reading targets text ≡ Ok schedule
    → schedule.rounds ≤ most_rounds

-- that `rounds` is missing is known at the end of a text alone
abbrev pub is_known_last : ScheduleKind → Bool
is_known_last NoRounds = true
is_known_last other = false

-- a fault on one of the first lines of a text, some of which are not skipped, is that of each text that begins with these lines,
-- except one that is known at the end alone
abbrev pub FirstFaultsStay : Type 0
FirstFaultsStay = (targets : List TargetScript) (front rest other : List ℕ) (fault : ScheduleFault)
    → is_some_line (lines_of (ended front)) ≡ true → fault.line ≤ length (raw_lines (ended front)) → is_known_last fault.kind ≡ false
    → reading targets (ended front ++ rest) ≡ Err fault → reading targets (ended front ++ other) ≡ Err fault

-- if `rounds` is not missing, a line that is skipped may be put in anywhere below the first that is not, and changes nothing but
-- numbers of lines
abbrev pub SkippedLinesCountAlone : Type 0
SkippedLinesCountAlone = (targets : List TargetScript) (front line rest : List ℕ) → is_line line ≡ true → is_skipped (without_cr line) ≡ true
    → is_some_line (lines_of (ended front)) ≡ true
    → ((fault : ScheduleFault) → reading targets (ended front ++ rest) ≡ Err fault → is_known_last fault.kind ≡ false)
    → reading targets (ended front ++ (ended line ++ rest))
    ≡ renumbered (behind (length (raw_lines (ended front)))) (λ schedule. schedule) (reading targets (ended front ++ rest))
