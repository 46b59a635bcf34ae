-- How many entries a run has at most.
use Rattle.std.specs.Prelude.{◌≡◌, ℕ, ◌≤◌, true, List, length}
use Rattle.std.specs.List.{sum_by}
use Rattle.sb_rule.specs.declared.policies.Policy.{Policy}
use Rattle.sb_statements.specs.Soundness.{is_sound}
use Rattle.sb_statements.specs.declared.schedules.Schedule.{Schedule}
use Rattle.sb_statements.specs.declared.scripts.Script.{Script}
use Rattle.sb_statements.specs.declared.scripts.TargetScript.{TargetScript}
use Rattle.sb_core.specs.OfScripts.{IsOfScript}
use Rattle.sb_core.specs.Runs.{CanRun, most_results, ran}
use Rattle.sb_core.specs.Worlds.{WorldAt}

-- how many statements a target has
abbrev pub statements_in : TargetScript → ℕ
statements_in target = sum_by (λ statements. length statements) target.threads

-- and a script
abbrev pub statement_count : Script → ℕ
statement_count script = sum_by statements_in script.targets

-- no run has more entries: 8 targets of 4 threads of 4,096 statements, each with at most one
abbrev pub most_entries : ℕ
most_entries = most_results

-- a sound script has at most so many statements
abbrev pub StatementsAreFew : Type 0
StatementsAreFew = (script : Script) → is_sound script ≡ true → statement_count script ≤ most_entries

-- in each world of a script, whichever steps led there, there are at most as many entries as the script has statements
abbrev pub WorldsHaveFewEntries : Type 0
WorldsHaveFewEntries = (script : Script) (w : WorldAt) → IsOfScript script w → length w.shared.book.entries ≤ statement_count script

-- so it is in the report of every run, also if it leaves a thread unfinished
abbrev pub RunsHaveFewEntries : Type 0
RunsHaveFewEntries = (policies : List Policy) (script : Script) (schedule : Schedule) → CanRun policies script schedule
    → length (ran policies script schedule).report.entries ≤ statement_count script
