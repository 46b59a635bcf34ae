-- What is promised of a run that leaves no thread unfinished, and of its transcript.
use Rattle.std.specs.Prelude.{◌≡◌, ℕ, ◌+◌, ◌<◌, true, List, [], length, slice_get, slice_index, None, Some}
use Rattle.std.specs.List.{filter}
use Rattle.sb_block.specs.Copies.{is_copy}
use Rattle.sb_block.specs.declared.faults.BlockFault.{BlockFault}
use Rattle.sb_book.specs.Headline.{IsCarriedOut, space_at}
use Rattle.sb_book.specs.Histories.{setting_of, space_from}
use Rattle.sb_book.specs.Laws.{is_performed}
use Rattle.sb_book.specs.Reports.{result_count}
use Rattle.sb_book.specs.declared.decisions.Decision.TheVariants.{Denied, Faked, Performed, Refused}
use Rattle.sb_book.specs.declared.entries.Entry.{Entry}
use Rattle.sb_book.specs.declared.reports.Report.{Report}
use Rattle.sb_call.specs.declared.arguments.Arg.{Arg}
use Rattle.sb_call.specs.declared.tags.CallTag.{CallTag}
use Rattle.sb_core.specs.Fits.{OwnReplies, ResultsSuit}
use Rattle.sb_core.specs.Results.{AreAllResults}
use Rattle.sb_core.specs.Runs.{CanRun, ran}
use Rattle.sb_kernel.specs.Namespaces.{Space}
use Rattle.sb_kernel.specs.Openings.{opening}
use Rattle.sb_outside.specs.Outside.{joined}
use Rattle.sb_rule.specs.Verdicts.{policy_at}
use Rattle.sb_rule.specs.declared.actions.Action.{Action}
use Rattle.sb_rule.specs.declared.policies.Policy.{Policy}
use Rattle.sb_rule.specs.declared.verdicts.Verdict.{Verdict}
use Rattle.sb_statements.specs.declared.results.StmtResult.{StmtResult}
use Rattle.sb_statements.specs.declared.schedules.Schedule.{Schedule}
use Rattle.sb_statements.specs.declared.scripts.Script.{Script}
use Rattle.sb_transcript.specs.EntryLines.{entry_line}
use Rattle.sb_transcript.specs.Laws.{cut_after_lf}
use Rattle.sb_transcript.specs.Places.{result_at, results_before}
use Rattle.sb_transcript.specs.ResultLines.{result_line}
use Rattle.sb_transcript.specs.Totals.{totals_line}
use Rattle.sb_transcript.specs.Transcripts.{transcript_lines}
use Rattle.sb_top.specs.Decided.{IsBlockRefused, IsDenied, IsFaked}

-- ---- the run

-- the policy that the script names for a target
abbrev pub policy_for : List Policy → Script → ℕ → Policy
policy_for policies script target = policy_at (setting_of policies script).policies target

-- the namespace after the first n entries of a report, from the one that the script opens with
abbrev pub space_after_first : List Policy → Script → Report → ℕ → Space
space_after_first policies script report n = space_at (setting_of policies script) report.entries n

-- an entry is of a target and of a channel of it that are there, and its copy is one that a worker can take
pub record IsTaken (script : Script) (e : Entry) : Type 0 where
  pub target_there : e.target < length script.targets
  pub channel_there : e.channel < slice_index (setting_of [] script).channels e.target
  pub whole : is_copy e.taken ≡ true

-- The promise of a run of a script under policies by a schedule, with this report.
--
-- The script can be run by the schedule, no thread is left unfinished, and the report is that of this run. Each entry is of a copy that a worker can take. A call
-- was performed only as the first rule that holds for the call of the copy allows it, with exactly the arguments that this rule grants; a call was denied because
-- no rule holds for it, or the first that does denies it; a call was faked because the first rule that holds says so; and a block was refused for the fault that its
-- copy has. Each of these says what became of the namespace and what was replied. The namespace of the report is that to which the performed calls alone lead. Each
-- statement has one result. On clean channels the results Reply of each thread and the entries of its calls are the same, in order and one to one; and a call ends
-- otherwise only for the reason that its result tells
pub record IsPromisedRun (policies : List Policy) (script : Script) (schedule : Schedule) (report : Report) : Type 0 where
  pub can : CanRun policies script schedule
  pub finished : (ran policies script schedule).unfinished ≡ None
  pub is : report ≡ (ran policies script schedule).report
  pub taken : (n : ℕ) (e : Entry) → slice_get report.entries n ≡ Some e → IsTaken script e
  pub performed : (n : ℕ) (e : Entry) (tag : CallTag) (line : ℕ) (action : Action) (args : List Arg)
      → slice_get report.entries n ≡ Some e → e.decision ≡ Performed tag line action args
      → IsCarriedOut (policy_for policies script e.target) e (space_after_first policies script report n) (space_after_first policies script report (n + 1)) tag line action args
  pub denied : (n : ℕ) (e : Entry) (tag : CallTag) (reason : Verdict) → slice_get report.entries n ≡ Some e → e.decision ≡ Denied tag reason
      → IsDenied (policy_for policies script e.target) e (space_after_first policies script report n) (space_after_first policies script report (n + 1)) tag reason
  pub faked : (n : ℕ) (e : Entry) (tag : CallTag) (line : ℕ) → slice_get report.entries n ≡ Some e → e.decision ≡ Faked tag line
      → IsFaked (policy_for policies script e.target) e (space_after_first policies script report n) (space_after_first policies script report (n + 1)) tag line
  pub refused : (n : ℕ) (e : Entry) (found : BlockFault) → slice_get report.entries n ≡ Some e → e.decision ≡ Refused found
      → IsBlockRefused e (space_after_first policies script report n) (space_after_first policies script report (n + 1)) found
  pub namespace : report.kernel ≡ space_from (opening script.start) (filter is_performed report.entries)
  pub results : AreAllResults script report.results
  pub own_replies : OwnReplies script report.entries report.results
  pub other_results : ResultsSuit script report.results

-- ---- the transcript

-- The text is the transcript of a report. Cut after each LF it is the lines of the entries in order, then those of the results in order, then the totals, and
-- no others; there is nothing beside these lines. Line n is that of entry n; the line of a result comes after those of all entries and of the results before
-- it; and the last line is the totals
pub record IsTranscript (script : Script) (report : Report) (text : List ℕ) : Type 0 where
  pub lines : cut_after_lf text ≡ transcript_lines script report
  pub whole : text ≡ joined (cut_after_lf text)
  pub entries : (n : ℕ) (e : Entry) → slice_get report.entries n ≡ Some e → slice_get (cut_after_lf text) n ≡ Some (entry_line script n e)
  pub results : (target thread place : ℕ) (result : StmtResult) → result_at report.results target thread place ≡ Some result
      → slice_get (cut_after_lf text) (length report.entries + results_before report.results target thread place) ≡ Some (result_line script target thread place result)
  pub totals : slice_get (cut_after_lf text) (length report.entries + result_count report.results) ≡ Some (totals_line report)
