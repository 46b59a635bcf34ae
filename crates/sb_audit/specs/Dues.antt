-- What is due at a line at which a clause fails, by that clause.
use Rattle.std.specs.Prelude.{ℕ, ◌+◌, Bool, ◌&&◌, ◌==◌, nat_le, List, [], ◌∷◌, length, bit_and, Option, None, Some, slice_get, if◌then◌else◌}
use Rattle.sb_actor.specs.Places.{statement_at}
use Rattle.sb_call.specs.Arguments.{fits}
use Rattle.sb_call.specs.declared.arguments.Arg.{Arg}
use Rattle.sb_call.specs.declared.arguments.Arg.TheVariants.{Num}
use Rattle.sb_call.specs.declared.tags.CallTag.{CallTag}
use Rattle.sb_rule.specs.Verdicts.{verdict_of}
use Rattle.sb_rule.specs.declared.actions.Action.TheVariants as action
use Rattle.sb_rule.specs.declared.policies.Policy.{Policy}
use Rattle.sb_statements.specs.Scripts.{is_clean}
use Rattle.sb_statements.specs.Soundness.{channels_of}
use Rattle.sb_statements.specs.declared.scripts.Script.{Script}
use Rattle.sb_statements.specs.declared.statements.Statement.{Statement}
use Rattle.sb_statements.specs.declared.statements.Statement.TheVariants as statement
use Rattle.sb_transcript.specs.declared.read_lines.EntryLine.{EntryLine}
use Rattle.sb_transcript.specs.declared.read_lines.Line.{Line}
use Rattle.sb_transcript.specs.declared.read_lines.ShownDecision.{ShownDecision}
use Rattle.sb_transcript.specs.declared.read_lines.ShownDecision.TheVariants.{Refused, NoRule, Denied, Alarmed, Faked, Allowed, ReadOnly}
use Rattle.sb_transcript.specs.declared.read_lines.ShownReply.{ShownReply}
use Rattle.sb_transcript.specs.declared.read_lines.ShownResult.{ShownResult}
use Rattle.sb_transcript.specs.declared.read_lines.ShownResult.TheVariants as result
use Rattle.sb_actor.specs.Marks.{marks_of_thread}
use Rattle.sb_audit.specs.Before.{entry_count, has_totals, result_count}
use Rattle.sb_audit.specs.Clauses.{has_rule, is_decided, place_of, thread_of}
use Rattle.sb_rule.specs.Accesses.{writing_bits}
use Rattle.sb_audit.specs.Spots.{due_spot}
use Rattle.sb_audit.specs.declared.dues.Due.{Due}
use Rattle.sb_audit.specs.declared.dues.Due.TheVariants as due
use Rattle.sb_audit.specs.declared.dues.FormDue.{FormDue}
use Rattle.sb_audit.specs.declared.dues.FormDue.TheVariants as form
use Rattle.sb_audit.specs.declared.dues.PlaceDue.{PlaceDue}
use Rattle.sb_audit.specs.declared.dues.PlaceDue.TheVariants as place
use Rattle.sb_audit.specs.declared.dues.RuleDue.{RuleDue}
use Rattle.sb_audit.specs.declared.dues.RuleDue.TheVariants as rule
use Rattle.sb_audit.specs.declared.dues.ReplyDue.{ReplyDue}
use Rattle.sb_audit.specs.declared.dues.ReplyDue.TheVariants as reply
use Rattle.sb_audit.specs.declared.dues.OwnDue.{OwnDue}
use Rattle.sb_audit.specs.declared.dues.OwnDue.TheVariants as own
use Rattle.sb_audit.specs.declared.dues.ResultDue.{ResultDue}
use Rattle.sb_audit.specs.declared.dues.ResultDue.TheVariants as owed

-- the number of the clause
abbrev pub clause_of : Due → ℕ
clause_of (due.Form d) = 1
clause_of (due.Place d) = 2
clause_of (due.Rule d) = 3
clause_of (due.Reply d) = 4
clause_of (due.Own d) = 5
clause_of (due.Result d) = 6
clause_of (due.Totals d) = 7

-- ---- 1. form

-- after this many entries and results, and maybe the totals
abbrev pub due_form : Script → Bool → ℕ → ℕ → FormDue
due_form script ended entries results =
    if ended then form.End else form.Line (if results == 0 then Some entries else None) (due_spot script results)

-- after lines
abbrev pub due_after : Script → List Line → Due
due_after script before = due.Form (due_form script (has_totals before) (entry_count before) (result_count before))

-- at bytes that are no line, by whether an LF ends them
abbrev pub due_unread : Bool → Due → Due
due_unread is_ended after = if is_ended then after else due.Form form.LineFeed

-- ---- 2. place

abbrev pub due_target : Script → PlaceDue
due_target script = place.Target (length script.targets)

abbrev pub due_channel : Script → ℕ → PlaceDue
due_channel script target = place.Channel (channels_of (slice_get script.targets target))

-- ---- 3. rule

-- the bits of the access, the second argument, that do more than read
abbrev pub written_bits : List Arg → ℕ
written_bits (first ∷ Num access ∷ more) = bit_and access writing_bits
written_bits args = 0

-- for a `readonly` rule on this line
abbrev pub due_read_only : Policy → CallTag → List Arg → ℕ → RuleDue
due_read_only policy tag args n =
    if fits tag args then (if has_rule policy tag n action.ReadOnly then rule.Without (written_bits args) else rule.RuleOn n action.ReadOnly)
    else rule.FittingArgs

-- under this policy, by what the line shows of its rule. The clause does not fail of the last two
abbrev pub due_rule : Policy → ShownDecision → RuleDue
due_rule policy (Allowed tag args n) = if fits tag args then rule.Decided (verdict_of policy tag args) else rule.FittingArgs
due_rule policy (ReadOnly tag args n) = due_read_only policy tag args n
due_rule policy (Denied tag n) = rule.RuleOn n action.Deny
due_rule policy (Alarmed tag n) = rule.RuleOn n action.Alarm
due_rule policy (Faked tag n) = rule.RuleOn n action.Fake
due_rule policy (NoRule tag) = rule.FittingArgs
due_rule policy (Refused fault) = rule.FittingArgs

-- ---- 4. reply

abbrev pub whole_reply : ShownReply → ReplyDue
whole_reply r = reply.Whole r.outcome r.status r.handle (length r.ext)

-- the first of the words due that is another than the one shown; the first words have this place
abbrev pub other_word : ReplyDue → ℕ → List ℕ → List ℕ → ReplyDue
other_word whole n [] wanted = whole
other_word whole n (x ∷ shown) [] = whole
other_word whole n (x ∷ shown) (y ∷ wanted) = if x == y then other_word whole (n + 1) shown wanted else reply.Word n y

-- in place of the reply that is shown
abbrev pub due_reply : ShownReply → ShownReply → ReplyDue
due_reply shown wanted =
    if shown.outcome == wanted.outcome && shown.status == wanted.status && shown.handle == wanted.handle && length shown.ext == length wanted.ext
    then other_word (whole_reply wanted) 0 shown.ext wanted.ext
    else whole_reply wanted

-- ---- 5. own

-- by the statement that the mark names
abbrev pub due_decision : Policy → EntryLine → Option Statement → OwnDue
due_decision policy e (Some (statement.Call tag args)) =
    if is_decided policy e.mark e.decision (Some (statement.Call tag args)) then own.Later (thread_of e.mark) (place_of e.mark)
    else own.Decision tag (verdict_of policy tag args)
due_decision policy e s = own.CallMark

abbrev pub due_call : Policy → Script → ℕ → EntryLine → OwnDue
due_call policy script target e =
    if nat_le marks_of_thread e.mark then due_decision policy e (statement_at script target (thread_of e.mark) (place_of e.mark)) else own.CallMark

-- ---- 6. result

-- the reply on a clean channel
abbrev pub unless_clean : Script → ℕ → ℕ → ResultDue → ResultDue
unless_clean script target channel otherwise = if is_clean script target channel then owed.CleanReply channel else otherwise

-- of a call with this mark that no entry on a clean channel answers
abbrev pub due_unanswered : Script → ℕ → ℕ → ShownResult → ResultDue
due_unanswered script target mark (result.Reply channel r) = owed.Entry channel mark
due_unanswered script target mark result.NoChannel = owed.Channel
due_unanswered script target mark (result.SendLost channel found) = unless_clean script target channel owed.OtherState
due_unanswered script target mark (result.Foreign channel other) = unless_clean script target channel (owed.OtherMark mark)
due_unanswered script target mark (result.TimedOut channel) = owed.CleanReply channel
due_unanswered script target mark r = owed.OfCall

-- of a statement of a target, by whether an entry on a clean channel answers it, if it is a call with this mark
abbrev pub due_result : Script → Bool → ℕ → ℕ → ShownResult → Option Statement → ResultDue
due_result script answered target mark r (Some (statement.Call tag args)) =
    if answered then owed.ReplyOf mark else due_unanswered script target mark r
due_result script answered target mark r (Some (statement.Store t w v)) = owed.OfStore
due_result script answered target mark r (Some (statement.Exchange t w from to)) = owed.OfLoad
due_result script answered target mark r (Some (statement.Load t w)) = owed.OfLoad
due_result script answered target mark r (Some (statement.Wait t w v most)) = owed.OfWait most
due_result script answered target mark r None = owed.Statement
