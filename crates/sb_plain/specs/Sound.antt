-- What the report of a run says of its script, whatever the order of the steps was.
use Rattle.std.specs.Prelude.{◌≡◌, ◌≤◌, ◌*◌, length, map, List, None, IfSome, Ok}
use Rattle.sb_audit.specs.Converse.{IsAuditedYes}
use Rattle.sb_transcript.specs.Lengths.{most_transcript_bytes}
use Rattle.sb_transcript.specs.Printable.{IsPrintable}
use Rattle.sb_transcript.specs.Transcripts.{transcript}
use Rattle.sb_book.specs.Histories.{setting_of, IsHistory}
use Rattle.sb_core.specs.EntryCounts.{statement_count}
use Rattle.sb_core.specs.Fits.{Fits}
use Rattle.sb_core.specs.Origins.{IsSourced}
use Rattle.sb_core.specs.Results.{ResultsFit}
use Rattle.sb_core.specs.Runs.{CanRun}
use Rattle.sb_core.specs.Tallies.{AreFew}
use Rattle.sb_core.specs.declared.runs.Ran.{Ran}
use Rattle.sb_rule.specs.declared.policies.Policy.{Policy}
use Rattle.sb_statements.specs.declared.schedules.Schedule.{Schedule}
use Rattle.sb_statements.specs.declared.scripts.Script.{Script}
use Rattle.sb_plain.specs.Contents.{Contents}
use Rattle.sb_plain.specs.Ends.{End, IsOrderOf, Meaning, OnThreads, Plain, ScriptRun}
use Rattle.sb_plain.specs.Replay.{whole_run}

-- What a run reports: its entries are a legal history, which led to its namespace; each result is that of the statement at its place; each
-- target has 65 words for each channel; no word of it is invented; and it has at most as many entries as the script has statements. If no thread is
-- unfinished the report fits the script: there is one result for each statement, each thread has its own replies, each once, each result suits its
-- statement, and so do the words; a channel has no more entries than calls that were handed over there and statements that made it ready; and if the
-- report can be printed, as each that the program holds, its transcript is at most 536,870,912 bytes long, and an audit of it says yes
pub record IsSoundRun (policies : List Policy) (script : Script) (r : Ran) : Type 0 where
  pub history : IsHistory (record { setting = setting_of policies script; space = r.report.kernel; entries = r.report.entries })
  pub results : ResultsFit script r.report.results
  pub words : map (λ words. length words) r.report.words ≡ map (λ target. target.channels * 65) script.targets
  pub sourced : IsSourced script r.report
  pub entries : length r.report.entries ≤ statement_count script
  pub fits : r.unfinished ≡ None → Fits policies script r.report
  pub few : r.unfinished ≡ None → AreFew script r.report
  pub short : r.unfinished ≡ None → IsPrintable r.report → length (transcript script r.report) ≤ most_transcript_bytes
  pub audited : r.unfinished ≡ None → IsPrintable r.report → IsAuditedYes policies script r.report

-- so is each run
abbrev pub RunsAreSound : Type 0
RunsAreSound = (policies : List Policy) (script : Script) (schedule : Schedule) → CanRun policies script schedule
    → IsSoundRun policies script (whole_run policies script schedule)

-- so is a run that a command made
abbrev pub IsSound : ScriptRun → Type 0
IsSound run = IsSoundRun run.policies run.script run.ran

-- the run of each end is sound, for each order of steps
abbrev pub AreEndsSound : Meaning → Type 0
AreEndsSound (Plain meaning) = (contents : Contents) (end : End) → meaning contents ≡ Ok end → IfSome end.run IsSound
AreEndsSound (OnThreads meaning) = (order : Schedule) (contents : Contents) (end : End) → meaning order contents ≡ Ok end → IsOrderOf order end → IfSome end.run IsSound
