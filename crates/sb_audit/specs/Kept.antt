-- What is kept of the lines that were read, and the clauses over that.
use Rattle.std.specs.Prelude.{◌≡◌, ℕ, ◌+◌, ◌<◌, ◌≤◌, Bool, true, false, not, ◌&&◌, ◌||◌, nat_le, List, length, Option, None, Some, is_some, ⊤, if◌then◌else◌}
use Rattle.sb_actor.specs.Places.{mark_at, statement_at}
use Rattle.sb_call.specs.Arguments.{fits}
use Rattle.sb_kernel.specs.Namespaces.{Space}
use Rattle.sb_rule.specs.declared.policies.Policy.{Policy}
use Rattle.sb_statements.specs.Scripts.{is_clean}
use Rattle.sb_statements.specs.declared.scripts.Script.{Script}
use Rattle.sb_transcript.specs.declared.read_lines.EntryLine.{EntryLine}
use Rattle.sb_transcript.specs.declared.read_lines.ResultLine.{ResultLine}
use Rattle.sb_transcript.specs.declared.read_lines.TotalsLine.{TotalsLine}
use Rattle.sb_transcript.specs.declared.read_lines.Line.{Line}
use Rattle.sb_transcript.specs.declared.read_lines.Line.TheVariants as line
use Rattle.sb_transcript.specs.declared.read_lines.ShownDecision.{ShownDecision}
use Rattle.sb_transcript.specs.declared.read_lines.ShownDecision.TheVariants.{Refused, NoRule, Denied, Alarmed, Faked, Allowed, ReadOnly}
use Rattle.sb_transcript.specs.declared.read_lines.ShownResult.{ShownResult}
use Rattle.sb_audit.specs.Answers.{refutation}
use Rattle.sb_audit.specs.Audited.{policy_of}
use Rattle.sb_actor.specs.Marks.{marks_of_thread}
use Rattle.sb_audit.specs.Before.{entries_of, has_totals, performed_of, space_after, space_with, target_of}
use Rattle.sb_audit.specs.Clauses.{has_channel, is_denied, is_due_after, is_faked, is_of_call, is_performed, is_refused, is_reply_of, needs_entry, place_of, reply_due, same_totals, shows_rule, suits, thread_of, totals_due}
use Rattle.sb_audit.specs.Comparing.{same_reply}
use Rattle.sb_audit.specs.Dues.{due_call, due_channel, due_form, due_reply, due_result, due_rule, due_target, due_unread}
use Rattle.sb_audit.specs.Rows.{IsPut, KeepsRows, row_at, slot_at}
use Rattle.sb_audit.specs.declared.answers.AuditAnswer.{AuditAnswer}
use Rattle.sb_audit.specs.declared.answers.AuditAnswer.TheVariants.{Yes}
use Rattle.sb_audit.specs.declared.dues.Due.{Due}
use Rattle.sb_audit.specs.declared.dues.Due.TheVariants as due
use Rattle.sb_audit.specs.declared.dues.ResultDue.{ResultDue}
use Rattle.sb_audit.specs.declared.dues.ResultDue.TheVariants as owed
use Rattle.sb_audit.specs.declared.own_places.OwnPlace.{OwnPlace}
use Rattle.sb_audit.specs.declared.own_places.OwnPlace.TheVariants.{NotClean, NotOwn, At}
use Rattle.sb_audit.specs.declared.slots.OwnReply.{OwnReply}

-- the namespace that the performed calls led to, the totals so far, whether the totals were read, and the replies on clean channels
pub record KeptAt : Type 0 where
  pub space : Space
  pub totals : TotalsLine
  pub ended : Bool
  pub rows : List (List (Option OwnReply))

-- it agrees with these lines
pub record Keeps (script : Script) (before : List Line) (kept : KeptAt) : Type 0 where
  pub space : kept.space ≡ space_after script before
  pub totals : kept.totals ≡ totals_due before
  pub ended : kept.ended ≡ has_totals before
  pub rows : KeepsRows script (entries_of before) kept.rows

-- the arguments that a decision shows as performed fit their call
abbrev pub shown_fits : ShownDecision → Bool
shown_fits (Allowed tag args n) = fits tag args
shown_fits (ReadOnly tag args n) = fits tag args
shown_fits (Refused fault) = true
shown_fits (NoRule tag) = true
shown_fits (Denied tag n) = true
shown_fits (Alarmed tag n) = true
shown_fits (Faked tag n) = true

-- an entry is that of a call, above what is kept of the thread
abbrev pub is_call_kept : Policy → Script → List (List (Option OwnReply)) → ℕ → EntryLine → Bool
is_call_kept policy script rows target e =
    is_of_call policy script target e && nat_le (length (row_at rows target (thread_of e.mark))) (place_of e.mark)

abbrev pub is_own_kept : Policy → Script → List (List (Option OwnReply)) → ℕ → EntryLine → Bool
is_own_kept policy script rows target e = not (is_clean script target e.channel) || is_call_kept policy script rows target e

-- where the call of an entry is
pub record IsAt (policy : Policy) (script : Script) (rows : List (List (Option OwnReply))) (target : ℕ) (e : EntryLine) (thread place : ℕ) : Type 0 where
  pub clean : is_clean script target e.channel ≡ true
  pub own : is_call_kept policy script rows target e ≡ true
  pub above : length (row_at rows target (thread_of e.mark)) ≤ place_of e.mark
  pub marked : marks_of_thread ≤ e.mark
  pub thread_is : thread ≡ thread_of e.mark
  pub place_is : place ≡ place_of e.mark
  pub of_target : target < 8
  pub of_thread : thread < 4

abbrev pub IsOwnPlace : Policy → Script → List (List (Option OwnReply)) → ℕ → EntryLine → OwnPlace → Type 0
IsOwnPlace policy script rows target e NotClean = is_clean script target e.channel ≡ false
IsOwnPlace policy script rows target e NotOwn = (is_clean script target e.channel ≡ true) × (is_call_kept policy script rows target e ≡ false)
IsOwnPlace policy script rows target e (At thread place) = IsAt policy script rows target e thread place

-- the clauses, over what is kept in place of the lines before
abbrev pub decision_kept : Policy → Script → KeptAt → ℕ → EntryLine → Option Due
decision_kept policy script kept target e =
    if not (shows_rule policy e.decision) then Some (due.Rule (due_rule policy e.decision))
    else (if not (same_reply e.reply (reply_due kept.space target e.decision)) then Some (due.Reply (due_reply e.reply (reply_due kept.space target e.decision)))
    else (if not (is_own_kept policy script kept.rows target e) then Some (due.Own (due_call policy script target e))
    else None))

abbrev pub entry_kept : List Policy → Script → KeptAt → EntryLine → Option ℕ → Option Due
entry_kept policies script kept e None = Some (due.Place (due_target script))
entry_kept policies script kept e (Some target) =
    if has_channel script target e.channel then decision_kept (policy_of policies script target) script kept target e
    else Some (due.Place (due_channel script target))

abbrev pub suits_slot : Script → ℕ → ShownResult → Option OwnReply → Bool
suits_slot script target r None = not (needs_entry script target r)
suits_slot script target r (Some own) = is_reply_of r own.channel own.reply

abbrev pub is_fitting_kept : Script → List (List (Option OwnReply)) → ℕ → ResultLine → Bool
is_fitting_kept script rows target r =
    suits script target (mark_at r.thread r.place) r.result (statement_at script target r.thread r.place)
    && suits_slot script target r.result (slot_at rows target r.thread r.place)

abbrev pub result_due_kept : Script → List (List (Option OwnReply)) → ℕ → ResultLine → ResultDue
result_due_kept script rows target r =
    due_result script (is_some (slot_at rows target r.thread r.place)) target (mark_at r.thread r.place) r.result (statement_at script target r.thread r.place)

abbrev pub result_kept : Script → List (List (Option OwnReply)) → ResultLine → Option ℕ → Option Due
result_kept script rows r None = Some (due.Result owed.Statement)
result_kept script rows r (Some target) = if is_fitting_kept script rows target r then None else Some (due.Result (result_due_kept script rows target r))

abbrev pub totals_kept : KeptAt → TotalsLine → Option Due
totals_kept kept t = if same_totals t kept.totals then None else Some (due.Totals kept.totals)

abbrev pub clause_kept : List Policy → Script → KeptAt → Line → Option Due
clause_kept policies script kept (line.Entry e) = entry_kept policies script kept e (target_of script e.target)
clause_kept policies script kept (line.Result r) = result_kept script kept.rows r (target_of script r.target)
clause_kept policies script kept (line.Totals t) = totals_kept kept t

abbrev pub due_kept : Script → KeptAt → Due
due_kept script kept = due.Form (due_form script kept.ended kept.totals.entries kept.totals.results)

abbrev pub failing_kept : List Policy → Script → KeptAt → Line → Option Due
failing_kept policies script kept l =
    if is_due_after script kept.ended kept.totals.entries kept.totals.results l then clause_kept policies script kept l else Some (due_kept script kept)

abbrev pub failing_line_kept : List Policy → Script → KeptAt → Bool → Option Line → Option Due
failing_line_kept policies script kept is_ended None = Some (due_unread is_ended (due_kept script kept))
failing_line_kept policies script kept is_ended (Some l) = failing_kept policies script kept l

abbrev pub end_kept : Script → KeptAt → ℕ → AuditAnswer
end_kept script kept n = if kept.ended then Yes kept.totals.entries kept.totals.results else refutation (n + 1) (due_kept script kept)

-- the totals of no lines, and with one line more
abbrev pub no_totals : TotalsLine
no_totals = record { entries = 0; performed = 0; faked = 0; denied = 0; refused = 0; results = 0 }

abbrev pub one_if : Bool → ℕ
one_if true = 1
one_if false = 0

abbrev pub with_entry : TotalsLine → ShownDecision → TotalsLine
with_entry t d = record {
  entries = t.entries + 1;
  performed = t.performed + one_if (is_performed d);
  faked = t.faked + one_if (is_faked d);
  denied = t.denied + one_if (is_denied d);
  refused = t.refused + one_if (is_refused d);
  results = t.results;
}

abbrev pub with_result : TotalsLine → TotalsLine
with_result t = record {
  entries = t.entries;
  performed = t.performed;
  faked = t.faked;
  denied = t.denied;
  refused = t.refused;
  results = t.results + 1;
}

-- each count is at most n
pub record AreAtMost (n : ℕ) (t : TotalsLine) : Type 0 where
  pub entries : t.entries ≤ n
  pub performed : t.performed ≤ n
  pub faked : t.faked ≤ n
  pub denied : t.denied ≤ n
  pub refused : t.refused ≤ n
  pub results : t.results ≤ n

-- the rows with the reply of an entry, if its channel is clean
abbrev pub RowsFollow : Bool → ℕ → EntryLine → List (List (Option OwnReply)) → List (List (Option OwnReply)) → Type 0
RowsFollow false target e old new = new ≡ old
RowsFollow true target e old new =
    (marks_of_thread ≤ e.mark) × (thread_of e.mark < 4) × (length (row_at old target (thread_of e.mark)) ≤ place_of e.mark)
    × IsPut target (thread_of e.mark) (place_of e.mark) (record { channel = e.channel; reply = e.reply }) old new

-- what is kept after an entry
pub record EntryFollows (script : Script) (target : ℕ) (e : EntryLine) (old new : KeptAt) : Type 0 where
  pub space : new.space ≡ space_with old.space (Some target) (performed_of e.decision)
  pub totals : new.totals ≡ with_entry old.totals e.decision
  pub ended : new.ended ≡ old.ended
  pub rows : RowsFollow (is_clean script target e.channel) target e old.rows new.rows

abbrev pub after_result : KeptAt → KeptAt
after_result kept = record { space = kept.space; totals = with_result kept.totals; ended = kept.ended; rows = kept.rows }

abbrev pub after_totals : KeptAt → KeptAt
after_totals kept = record { space = kept.space; totals = kept.totals; ended = true; rows = kept.rows }

-- after a line at which no clause fails
abbrev pub Follows : Script → Line → KeptAt → KeptAt → Type 0
Follows script (line.Entry e) old new = (target : ℕ) → target_of script e.target ≡ Some target → EntryFollows script target e old new
Follows script (line.Result r) old new = new ≡ after_result old
Follows script (line.Totals t) old new = new ≡ after_totals old

abbrev pub FollowsLine : Script → Option Line → KeptAt → KeptAt → Type 0
FollowsLine script None old new = ⊤
FollowsLine script (Some l) old new = Follows script l old new
