-- When a transcript is audited: no clause fails at any of its lines, and it ends after the totals.
use Rattle.std.specs.Prelude.{ℕ, ◌+◌, Bool, not, List, [], ◌∷◌, ◌++◌, Option, None, Some, if◌then◌else◌}
use Rattle.sb_kernel.specs.Namespaces.{Space}
use Rattle.sb_book.specs.Histories.{setting_of}
use Rattle.sb_rule.specs.Verdicts.{policy_at}
use Rattle.sb_rule.specs.declared.policies.Policy.{Policy}
use Rattle.sb_statements.specs.declared.scripts.Script.{Script}
use Rattle.sb_text.specs.Lines.{NumberedRawLine, numbered_raw_lines, without_cr}
use Rattle.sb_transcript.specs.Reading.{line_of}
use Rattle.sb_transcript.specs.declared.read_lines.EntryLine.{EntryLine}
use Rattle.sb_transcript.specs.declared.read_lines.ResultLine.{ResultLine}
use Rattle.sb_transcript.specs.declared.read_lines.Line.{Line}
use Rattle.sb_transcript.specs.declared.read_lines.Line.TheVariants as line
use Rattle.sb_actor.specs.Places.{mark_at, statement_at}
use Rattle.sb_audit.specs.Answers.{refutation}
use Rattle.sb_audit.specs.Before.{entries_of, entry_count, result_count, has_totals, target_of, space_after}
use Rattle.sb_audit.specs.Clauses.{is_due, has_channel, shows_rule, reply_due, is_own, is_answered, is_fitting, totals_due, same_totals}
use Rattle.sb_audit.specs.Comparing.{same_reply}
use Rattle.sb_audit.specs.Dues.{due_after, due_call, due_channel, due_reply, due_result, due_rule, due_target, due_unread}
use Rattle.sb_audit.specs.declared.answers.AuditAnswer.{AuditAnswer}
use Rattle.sb_audit.specs.declared.answers.AuditAnswer.TheVariants.{Yes}
use Rattle.sb_audit.specs.declared.dues.Due.{Due}
use Rattle.sb_audit.specs.declared.dues.Due.TheVariants as due
use Rattle.sb_audit.specs.declared.dues.ResultDue.TheVariants as owed

-- the policy of a target
abbrev pub policy_of : List Policy → Script → ℕ → Policy
policy_of policies script target = policy_at (setting_of policies script).policies target

-- What follows gives the lowest clause that fails, if one does, by what it says is due.

-- of clauses 3 to 5, at an entry of this target, whose channel is there
abbrev pub decision_clause : Policy → Script → Space → List EntryLine → ℕ → EntryLine → Option Due
decision_clause policy script space earlier target e =
    if not (shows_rule policy e.decision) then Some (due.Rule (due_rule policy e.decision))
    else (if not (same_reply e.reply (reply_due space target e.decision)) then Some (due.Reply (due_reply e.reply (reply_due space target e.decision)))
    else (if not (is_own policy script earlier target e) then Some (due.Own (due_call policy script target e))
    else None))

-- of clauses 2 to 5, at an entry
abbrev pub entry_clause : List Policy → Script → Space → List EntryLine → EntryLine → Option ℕ → Option Due
entry_clause policies script space earlier e None = Some (due.Place (due_target script))
entry_clause policies script space earlier e (Some target) =
    if has_channel script target e.channel then decision_clause (policy_of policies script target) script space earlier target e
    else Some (due.Place (due_channel script target))

-- what is due as the result of a statement of this target
abbrev pub result_due : Script → List EntryLine → ℕ → ResultLine → Due
result_due script entries target r =
    due.Result (due_result script (is_answered script entries target (mark_at r.thread r.place)) target (mark_at r.thread r.place) r.result
    (statement_at script target r.thread r.place))

abbrev pub result_clause : Script → List EntryLine → ResultLine → Option ℕ → Option Due
result_clause script entries r None = Some (due.Result owed.Statement)
result_clause script entries r (Some target) = if is_fitting script entries target r then None else Some (result_due script entries target r)

-- of clauses 2 to 7, at a line that is due
abbrev pub clause_at : List Policy → Script → List Line → Line → Option Due
clause_at policies script before (line.Entry e) =
    entry_clause policies script (space_after script before) (entries_of before) e (target_of script e.target)
clause_at policies script before (line.Result r) = result_clause script (entries_of before) r (target_of script r.target)
clause_at policies script before (line.Totals t) = if same_totals t (totals_due before) then None else Some (due.Totals (totals_due before))

-- at a line
abbrev pub failing : List Policy → Script → List Line → Line → Option Due
failing policies script before l = if is_due script before l then clause_at policies script before l else Some (due_after script before)

-- the line of a transcript that bytes are with the LF that ends them, if one does and they are a line without one CR at their end
abbrev pub line_with_end : List ℕ → Bool → Option Line
line_with_end bytes is_ended = if is_ended then line_of (without_cr bytes) else None

abbrev pub ended_line : NumberedRawLine → Option Line
ended_line raw = line_with_end raw.bytes raw.is_ended

-- at bytes that are a line, or none, by whether an LF ends them
abbrev pub failing_line : List Policy → Script → List Line → Bool → Option Line → Option Due
failing_line policies script before is_ended None = Some (due_unread is_ended (due_after script before))
failing_line policies script before is_ended (Some l) = failing policies script before l

-- lines, with one more after them if it is one
abbrev pub with_line : List Line → Option Line → List Line
with_line before None = before
with_line before (Some l) = before ++ l ∷ []

-- the answer at the end of a text of n lines, at none of which a clause fails
abbrev pub end_answer : Script → List Line → ℕ → AuditAnswer
end_answer script lines n = if has_totals lines then Yes (entry_count lines) (result_count lines) else refutation (n + 1) (due_after script lines)

-- the answer by the clause that fails at line n, if one does, and else the one to the lines after it
abbrev pub answer_at : Option Due → ℕ → AuditAnswer → AuditAnswer
answer_at None n later = later
answer_at (Some d) n later = refutation n d

-- the answer to the rest of a transcript after lines at which no clause fails; n is the number of the line before
abbrev pub audited_from : List Policy → Script → List Line → ℕ → List NumberedRawLine → AuditAnswer
audited_from policies script before n [] = end_answer script before n
audited_from policies script before n (raw ∷ more) =
    answer_at (failing_line policies script before raw.is_ended (ended_line raw)) raw.number
    (audited_from policies script (with_line before (ended_line raw)) raw.number more)

-- the answer to a transcript
abbrev pub audited : List Policy → Script → List ℕ → AuditAnswer
audited policies script text = audited_from policies script [] 0 (numbered_raw_lines text)
