-- The clauses of an audit. Each looks at the policies, the script, the lines before, and the line: whether it fails there.
use Rattle.std.specs.Prelude.{ℕ, ◌+◌, ◌/◌, ◌-◌, ◌%◌, Bool, true, false, not, ◌&&◌, ◌||◌, ◌==◌, nat_lt, nat_le, List, [], ◌∷◌, count_by, bit_and, Option, None, Some, is_none, is_some, slice_get}
use Rattle.std.specs.List.{list_any, list_all}
use Rattle.sb_actor.specs.Acts.{busy}
pub use Rattle.sb_actor.specs.Marks.{place_of, thread_of}
use Rattle.sb_actor.specs.Marks.{marks_of_thread}
use Rattle.sb_actor.specs.Places.{clean_channels, mark_at, statement_at}
use Rattle.sb_actor.specs.ThreadTable.{has_clean}
use Rattle.sb_block.specs.Blocks.{block}
use Rattle.sb_block.specs.Copies.{whole}
use Rattle.sb_book.specs.Decisions.{decision_of}
use Rattle.sb_book.specs.Histories.{denied_outcome, fault_words, faked_outcome, performed_outcome, refused_outcome}
use Rattle.sb_call.specs.Arguments.{fits}
use Rattle.sb_call.specs.Statuses.{success, invalid_parameter, access_denied}
use Rattle.sb_call.specs.declared.arguments.Arg.{Arg}
use Rattle.sb_call.specs.declared.arguments.Arg.TheVariants.{Num}
use Rattle.sb_call.specs.declared.replies.Answer.{Answer}
use Rattle.sb_call.specs.declared.tags.CallTag.{CallTag}
use Rattle.sb_kernel.specs.Namespaces.{Space, perform}
use Rattle.sb_rule.specs.Accesses.{writing_bits}
use Rattle.sb_rule.specs.Actions.{action_number}
use Rattle.sb_rule.specs.Verdicts.{is_for, verdict_of}
use Rattle.sb_rule.specs.declared.actions.Action.{Action}
use Rattle.sb_rule.specs.declared.actions.Action.TheVariants.{Allow, Deny, Alarm, Fake}
use Rattle.sb_rule.specs.declared.actions.Action.TheVariants as action
use Rattle.sb_rule.specs.declared.policies.Policy.{Policy}
use Rattle.sb_rule.specs.declared.policies.Rule.{Rule}
use Rattle.sb_rule.specs.declared.verdicts.Verdict.{Verdict}
use Rattle.sb_rule.specs.declared.verdicts.Verdict.TheVariants as verdict
use Rattle.sb_statements.specs.Scripts.{is_clean}
use Rattle.sb_statements.specs.Soundness.{channels_of}
use Rattle.sb_statements.specs.declared.scripts.Script.{Script}
use Rattle.sb_statements.specs.declared.statements.Statement.{Statement}
use Rattle.sb_statements.specs.declared.statements.Statement.TheVariants as statement
use Rattle.sb_transcript.specs.Printed.{shown_decision}
use Rattle.sb_transcript.specs.declared.read_lines.EntryLine.{EntryLine}
use Rattle.sb_transcript.specs.declared.read_lines.ResultLine.{ResultLine}
use Rattle.sb_transcript.specs.declared.read_lines.TotalsLine.{TotalsLine}
use Rattle.sb_transcript.specs.declared.read_lines.Line.{Line}
use Rattle.sb_transcript.specs.declared.read_lines.Line.TheVariants as line
use Rattle.sb_transcript.specs.declared.read_lines.ShownDecision.{ShownDecision}
use Rattle.sb_transcript.specs.declared.read_lines.ShownDecision.TheVariants.{Refused, NoRule, Denied, Alarmed, Faked, Allowed, ReadOnly}
use Rattle.sb_transcript.specs.declared.read_lines.ShownReply.{ShownReply}
use Rattle.sb_transcript.specs.declared.read_lines.ShownResult.{ShownResult}
use Rattle.sb_transcript.specs.declared.read_lines.ShownResult.TheVariants.{Reply, NoChannel, SendLost, Foreign, TimedOut, Stored, Found, Met, Unmet}
use Rattle.sb_audit.specs.Before.{entries_of, entry_count, result_count, has_totals, target_of, performed_of}
use Rattle.sb_audit.specs.Comparing.{same_decision, same_reply}
use Rattle.sb_audit.specs.Spots.{due_spot}
use Rattle.sb_audit.specs.declared.spots.Spot.{Spot}

-- this is that number
abbrev pub is_number : ℕ → Option ℕ → Bool
is_number target None = false
is_number target (Some t) = t == target

-- the target with this number has this name
abbrev pub is_target : Script → ℕ → List ℕ → Bool
is_target script target name = is_number target (target_of script name)

-- ---- 1. form: the line is the one that is due

-- a result is that of the statement at this place
abbrev pub is_at : Script → ResultLine → Option Spot → Bool
is_at script r None = false
is_at script r (Some spot) = is_target script spot.target r.target && r.thread == spot.thread && r.place == spot.place

-- due after this many entries and results, and maybe the totals
abbrev pub is_due_after : Script → Bool → ℕ → ℕ → Line → Bool
is_due_after script ended entries results (line.Entry e) = not ended && results == 0 && e.number == entries
is_due_after script ended entries results (line.Result r) = not ended && is_at script r (due_spot script results)
is_due_after script ended entries results (line.Totals t) = not ended && is_none (due_spot script results)

-- due are the entries, numbered from 0, then one result for each statement, then the totals, and nothing after them
abbrev pub is_due : Script → List Line → Line → Bool
is_due script before l = is_due_after script (has_totals before) (entry_count before) (result_count before) l

-- ---- 2. place: the target of an entry and its channel are there

abbrev pub has_channel : Script → ℕ → ℕ → Bool
has_channel script target channel = nat_lt channel (channels_of (slice_get script.targets target))

-- ---- 3. rule

-- a rule is for this call, and has this line and action
abbrev pub is_rule : CallTag → ℕ → Action → Rule → Bool
is_rule tag n action rule = is_for tag rule && rule.line == n && action_number rule.action == action_number action

-- some rule of the policy is
abbrev pub has_rule : Policy → CallTag → ℕ → Action → Bool
has_rule policy tag n action = list_any (is_rule tag n action) policy.rules

-- the access, the second argument, has no bit that does more than read
abbrev pub only_reads : List Arg → Bool
only_reads (first ∷ Num access ∷ more) = bit_and access writing_bits == 0
only_reads args = true

-- the verdict is that the rule on this line allows
abbrev pub is_allow : ℕ → Verdict → Bool
is_allow n (verdict.Rule line Allow) = line == n
is_allow n (verdict.Rule line action) = false
is_allow n verdict.NoRule = false

-- what a line shows of its rule is right
abbrev pub shows_rule : Policy → ShownDecision → Bool
shows_rule policy (Allowed tag args n) = fits tag args && is_allow n (verdict_of policy tag args)
shows_rule policy (ReadOnly tag args n) = fits tag args && has_rule policy tag n action.ReadOnly && only_reads args
shows_rule policy (Denied tag n) = has_rule policy tag n Deny
shows_rule policy (Alarmed tag n) = has_rule policy tag n Alarm
shows_rule policy (Faked tag n) = has_rule policy tag n Fake
shows_rule policy (NoRule tag) = true
shows_rule policy (Refused fault) = true

-- ---- 4. reply

abbrev pub fixed : ℕ → ℕ → List ℕ → ShownReply
fixed outcome status ext = record { outcome = outcome; status = status; handle = 0; ext = ext }

abbrev pub by_answer : Answer → ShownReply
by_answer a = record { outcome = performed_outcome; status = a.status; handle = a.handle; ext = a.ext }

-- the reply that a decision leads to in a namespace
abbrev pub reply_due : Space → ℕ → ShownDecision → ShownReply
reply_due space target (Allowed tag args n) = by_answer (perform space target tag args).answer
reply_due space target (ReadOnly tag args n) = by_answer (perform space target tag args).answer
reply_due space target (Refused fault) = fixed refused_outcome invalid_parameter (fault_words fault)
reply_due space target (NoRule tag) = fixed denied_outcome access_denied []
reply_due space target (Denied tag n) = fixed denied_outcome access_denied []
reply_due space target (Alarmed tag n) = fixed denied_outcome access_denied []
reply_due space target (Faked tag n) = fixed faked_outcome success []

-- ---- 5. own

-- an entry of a target is on a clean channel
abbrev pub is_on_clean : Script → ℕ → EntryLine → Bool
is_on_clean script target e = is_target script target e.target && is_clean script target e.channel

-- and its mark is one of this thread's
abbrev pub is_of_thread : Script → ℕ → ℕ → EntryLine → Bool
is_of_thread script target thread e = is_on_clean script target e && e.mark / marks_of_thread == thread + 1

-- the place is above those of the thread's entries on clean channels
abbrev pub is_above : Script → List EntryLine → ℕ → ℕ → ℕ → Bool
is_above script entries target thread place =
    list_all (λ earlier. not (is_of_thread script target thread earlier) || nat_lt (place_of earlier.mark) place) entries

-- a decision is that of the policy on the whole block of a call with this mark
abbrev pub is_decided : Policy → ℕ → ShownDecision → Option Statement → Bool
is_decided policy mark d (Some (statement.Call tag args)) = same_decision d (shown_decision (decision_of policy (whole (block tag args mark))))
is_decided policy mark d s = false

-- the mark is that of a call of a thread of the target, and the decision is that on this call
abbrev pub is_of_call : Policy → Script → ℕ → EntryLine → Bool
is_of_call policy script target e =
    nat_le marks_of_thread e.mark && is_decided policy e.mark e.decision (statement_at script target (thread_of e.mark) (place_of e.mark))

-- an entry on a clean channel is that of a call, above the thread's earlier ones
abbrev pub is_own : Policy → Script → List EntryLine → ℕ → EntryLine → Bool
is_own policy script earlier target e =
    not (is_clean script target e.channel)
    || (is_of_call policy script target e && is_above script earlier target (thread_of e.mark) (place_of e.mark))

-- ---- 6. result

-- a call of a target with this mark may have this result. A reply counts as one to the call's own mark, since a line does not show it
abbrev pub suits_call : Script → ℕ → ℕ → ShownResult → Bool
suits_call script target mark (Reply channel reply) = true
suits_call script target mark NoChannel = not (has_clean (clean_channels script target))
suits_call script target mark (SendLost channel found) = not (is_clean script target channel) && not (found == busy)
suits_call script target mark (Foreign channel other) = not (is_clean script target channel) && not (other == mark)
suits_call script target mark (TimedOut channel) = not (is_clean script target channel)
suits_call script target mark r = false

abbrev pub suits : Script → ℕ → ℕ → ShownResult → Option Statement → Bool
suits script target mark r (Some (statement.Call tag args)) = suits_call script target mark r
suits script target mark Stored (Some (statement.Store t w v)) = true
suits script target mark (Found v) (Some (statement.Exchange t w from to)) = true
suits script target mark (Found v) (Some (statement.Load t w)) = true
suits script target mark (Met loads) (Some (statement.Wait t w v most)) = nat_le 1 loads && nat_le loads most
suits script target mark (Unmet loads) (Some (statement.Wait t w v most)) = loads == most
suits script target mark r s = false

-- the result is this reply on this channel
abbrev pub is_reply_of : ShownResult → ℕ → ShownReply → Bool
is_reply_of (Reply channel reply) c own = channel == c && same_reply reply own
is_reply_of r c own = false

-- an entry on a clean channel of the target has this mark
abbrev pub answers_call : Script → ℕ → ℕ → EntryLine → Bool
answers_call script target mark e = is_on_clean script target e && e.mark == mark

-- some entry on a clean channel of the target does
abbrev pub is_answered : Script → List EntryLine → ℕ → ℕ → Bool
is_answered script entries target mark = list_any (answers_call script target mark) entries

-- some entry on a clean channel of the target has this mark, and the result is its reply
abbrev pub has_entry : Script → List EntryLine → ℕ → ℕ → ShownResult → Bool
has_entry script entries target mark r = list_any (λ e. answers_call script target mark e && is_reply_of r e.channel e.reply) entries

-- the result is the reply of each entry on a clean channel of the target that has this mark
abbrev pub fits_entries : Script → List EntryLine → ℕ → ℕ → ShownResult → Bool
fits_entries script entries target mark r = list_all (λ e. not (answers_call script target mark e) || is_reply_of r e.channel e.reply) entries

-- a reply on a clean channel needs its entry
abbrev pub needs_entry : Script → ℕ → ShownResult → Bool
needs_entry script target (Reply channel reply) = is_clean script target channel
needs_entry script target r = false

-- the result of the statement of a target is of its kind, and the reply of its entry
abbrev pub is_fitting : Script → List EntryLine → ℕ → ResultLine → Bool
is_fitting script entries target r =
    suits script target (mark_at r.thread r.place) r.result (statement_at script target r.thread r.place)
    && (not (needs_entry script target r.result) || has_entry script entries target (mark_at r.thread r.place) r.result)
    && fits_entries script entries target (mark_at r.thread r.place) r.result

-- ---- 7. totals

abbrev pub is_performed : ShownDecision → Bool
is_performed d = is_some (performed_of d)

abbrev pub is_faked : ShownDecision → Bool
is_faked (Faked tag n) = true
is_faked d = false

abbrev pub is_refused : ShownDecision → Bool
is_refused (Refused fault) = true
is_refused d = false

abbrev pub is_denied : ShownDecision → Bool
is_denied d = not (is_performed d) && not (is_faked d) && not (is_refused d)

-- how many entries show such a decision
abbrev pub count_of : (ShownDecision → Bool) → List EntryLine → ℕ
count_of test entries = count_by (λ e. test e.decision) entries

-- the totals of the lines before
abbrev pub totals_due : List Line → TotalsLine
totals_due before =
    record {
      entries = entry_count before;
      performed = count_of is_performed (entries_of before);
      faked = count_of is_faked (entries_of before);
      denied = count_of is_denied (entries_of before);
      refused = count_of is_refused (entries_of before);
      results = result_count before;
    }

abbrev pub same_totals : TotalsLine → TotalsLine → Bool
same_totals a b =
    a.entries == b.entries && a.performed == b.performed && a.faked == b.faked && a.denied == b.denied && a.refused == b.refused && a.results == b.results
