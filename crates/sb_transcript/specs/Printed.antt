-- What the lines of a transcript show of entries and results.
use Rattle.std.specs.Prelude.{ℕ, List}
use Rattle.sb_block.specs.Copies.{mark_of}
use Rattle.sb_book.specs.declared.decisions.Decision.{Decision}
use Rattle.sb_book.specs.declared.decisions.Decision.TheVariants as decision
use Rattle.sb_book.specs.declared.entries.Entry.{Entry}
use Rattle.sb_call.specs.declared.arguments.Arg.{Arg}
use Rattle.sb_call.specs.declared.replies.Reply.{Reply}
use Rattle.sb_call.specs.declared.tags.CallTag.{CallTag}
use Rattle.sb_rule.specs.declared.actions.Action.{Action}
use Rattle.sb_rule.specs.declared.actions.Action.TheVariants as action
use Rattle.sb_rule.specs.declared.verdicts.Verdict.{Verdict}
use Rattle.sb_rule.specs.declared.verdicts.Verdict.TheVariants as verdict
use Rattle.sb_statements.specs.declared.results.CallResult.{CallResult}
use Rattle.sb_statements.specs.declared.results.CallResult.TheVariants as call
use Rattle.sb_statements.specs.declared.results.StmtResult.{StmtResult}
use Rattle.sb_statements.specs.declared.results.StmtResult.TheVariants as result
use Rattle.sb_statements.specs.declared.scripts.Script.{Script}
use Rattle.sb_statements.specs.Scripts.{target_name}
use Rattle.sb_transcript.specs.declared.shown.ShownArgs.{ShownArgs}
use Rattle.sb_transcript.specs.declared.shown.ShownArgs.TheVariants as args
use Rattle.sb_transcript.specs.declared.read_lines.EntryLine.{EntryLine}
use Rattle.sb_transcript.specs.declared.read_lines.ResultLine.{ResultLine}
use Rattle.sb_transcript.specs.declared.read_lines.ShownDecision.{ShownDecision}
use Rattle.sb_transcript.specs.declared.read_lines.ShownDecision.TheVariants.{Refused, NoRule, Denied, Alarmed, Faked, Allowed, ReadOnly}
use Rattle.sb_transcript.specs.declared.read_lines.ShownReply.{ShownReply}
use Rattle.sb_transcript.specs.declared.read_lines.ShownResult.{ShownResult}
use Rattle.sb_transcript.specs.declared.read_lines.ShownResult.TheVariants as shown

-- what is shown of a rule that denies
abbrev pub shown_denial : CallTag → ℕ → Action → ShownDecision
shown_denial tag n action.Alarm = Alarmed tag n
shown_denial tag n action.Allow = Denied tag n
shown_denial tag n action.Deny = Denied tag n
shown_denial tag n action.Fake = Denied tag n
shown_denial tag n action.ReadOnly = Denied tag n

-- of a rule that grants
abbrev pub shown_grant : CallTag → ℕ → Action → List Arg → ShownDecision
shown_grant tag n action.ReadOnly args = ReadOnly tag args n
shown_grant tag n action.Allow args = Allowed tag args n
shown_grant tag n action.Deny args = Allowed tag args n
shown_grant tag n action.Alarm args = Allowed tag args n
shown_grant tag n action.Fake args = Allowed tag args n

-- of a verdict that denies
abbrev pub shown_verdict : CallTag → Verdict → ShownDecision
shown_verdict tag verdict.NoRule = NoRule tag
shown_verdict tag (verdict.Rule n a) = shown_denial tag n a

-- of a decision
abbrev pub shown_decision : Decision → ShownDecision
shown_decision (decision.Refused fault) = Refused fault
shown_decision (decision.Denied tag v) = shown_verdict tag v
shown_decision (decision.Faked tag n) = Faked tag n
shown_decision (decision.Performed tag n a args) = shown_grant tag n a args

-- of a reply
abbrev pub shown_reply : Reply → ShownReply
shown_reply r = record { outcome = r.outcome; status = r.status; handle = r.handle; ext = r.ext }

-- of entry n
abbrev pub shown_entry : Script → ℕ → Entry → EntryLine
shown_entry script n e = record {
  number = n;
  target = target_name script e.target;
  channel = e.channel;
  mark = mark_of e.taken;
  decision = shown_decision e.decision;
  reply = shown_reply e.reply;
}

abbrev pub shown_call : CallResult → ShownResult
shown_call (call.Reply channel reply) = shown.Reply channel (shown_reply reply)
shown_call call.NoChannel = shown.NoChannel
shown_call (call.SendLost channel found) = shown.SendLost channel found
shown_call (call.Foreign channel mark) = shown.Foreign channel mark
shown_call (call.TimedOut channel) = shown.TimedOut channel

-- of a result
abbrev pub shown_result : StmtResult → ShownResult
shown_result (result.Call r) = shown_call r
shown_result result.Stored = shown.Stored
shown_result (result.Found value) = shown.Found value
shown_result (result.Met loads) = shown.Met loads
shown_result (result.Unmet loads) = shown.Unmet loads

abbrev pub shown_result_line : Script → ℕ → ℕ → ℕ → StmtResult → ResultLine
shown_result_line script target thread place r =
    record { target = target_name script target; thread = thread; place = place; result = shown_result r }

-- the arguments that are borrowed
abbrev pub args_seen : ShownArgs → List Arg
args_seen (args.Listed listed) = listed.now
args_seen (args.Stored stored) = stored
