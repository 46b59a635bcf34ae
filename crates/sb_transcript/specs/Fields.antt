-- How a line is written: its fields, with one blank between each two.
use Rattle.std.specs.Prelude.{ℕ, List, [], ◌∷◌, ◌++◌, codes, map}
use Rattle.std.specs.Fmt.{decimal}
use Rattle.std.specs.List.{flat_map}
use Rattle.sb_base.specs.Numbers.{eight_digits, hexadecimal}
use Rattle.sb_base.specs.Quoting.{quoted}
use Rattle.sb_block.specs.declared.faults.BlockFault.{BlockFault}
use Rattle.sb_block.specs.declared.faults.BlockFault.TheVariants.{TooManyParams, BadEnd, CountChanged, EndChanged, BadParamType, BadPlace, UnknownTag, WrongShape, BadSize, BadName}
use Rattle.sb_call.specs.CallWords.{call_word}
use Rattle.sb_call.specs.declared.arguments.Arg.{Arg}
use Rattle.sb_call.specs.declared.arguments.Arg.TheVariants.{Num, Str}
use Rattle.sb_rule.specs.declared.actions.Action.{Action}
use Rattle.sb_rule.specs.declared.actions.Action.TheVariants as action
use Rattle.sb_rule.specs.declared.verdicts.Verdict.{Verdict}
use Rattle.sb_rule.specs.declared.verdicts.Verdict.TheVariants as verdict
use Rattle.sb_transcript.specs.CommaWords.{comma_words}
use Rattle.sb_transcript.specs.declared.read_lines.ShownDecision.{ShownDecision}
use Rattle.sb_transcript.specs.declared.read_lines.ShownDecision.TheVariants.{Refused, NoRule, Denied, Alarmed, Faked, Allowed, ReadOnly}
use Rattle.sb_transcript.specs.declared.read_lines.ShownReply.{ShownReply}
use Rattle.sb_transcript.specs.declared.read_lines.ShownResult.{ShownResult}
use Rattle.sb_transcript.specs.declared.read_lines.ShownResult.TheVariants.{Reply, NoChannel, SendLost, Foreign, TimedOut, Stored, Found, Met, Unmet}
use Rattle.sb_transcript.specs.declared.read_lines.EntryLine.{EntryLine}
use Rattle.sb_transcript.specs.declared.read_lines.ResultLine.{ResultLine}
use Rattle.sb_transcript.specs.declared.read_lines.TotalsLine.{TotalsLine}
use Rattle.sb_transcript.specs.declared.read_lines.Line.{Line}
use Rattle.sb_transcript.specs.declared.read_lines.Line.TheVariants as line

-- a field after a separator
abbrev pub after_separator : ℕ → List ℕ → List ℕ
after_separator separator field = separator ∷ field

-- fields, each after a separator
abbrev pub all_after : ℕ → List (List ℕ) → List ℕ
all_after separator fields = flat_map (after_separator separator) fields

-- a word with a number in decimal
abbrev pub counted : List ℕ → ℕ → List (List ℕ)
counted word n = word ∷ decimal n ∷ []

-- a fault by its name, and its values
abbrev pub fault_fields : BlockFault → List (List ℕ)
fault_fields (TooManyParams n) = counted (codes "too-many-params") n
fault_fields (BadEnd n) = counted (codes "bad-end") n
fault_fields (CountChanged a b) = codes "count-changed" ∷ decimal a ∷ decimal b ∷ []
fault_fields (EndChanged a b) = codes "end-changed" ∷ decimal a ∷ decimal b ∷ []
fault_fields (BadParamType i) = counted (codes "bad-param-type") i
fault_fields (BadPlace i) = counted (codes "bad-place") i
fault_fields (UnknownTag n) = counted (codes "unknown-tag") n
fault_fields WrongShape = codes "wrong-shape" ∷ []
fault_fields (BadSize i) = counted (codes "bad-size") i
fault_fields (BadName i) = counted (codes "bad-name") i

-- a fault after a blank
abbrev pub fault_text : BlockFault → List ℕ
fault_text fault = all_after 32 (fault_fields fault)

-- what comes before the line of a rule with this action
abbrev pub action_word : Action → List ℕ
action_word action.Allow = codes "rule"
action_word action.Deny = codes "rule"
action_word action.Alarm = codes "alarm"
action_word action.Fake = codes "fake"
action_word action.ReadOnly = codes "readonly"

-- a verdict: that no rule matched, or the line of the rule that decided
abbrev pub verdict_fields : Verdict → List (List ℕ)
verdict_fields verdict.NoRule = codes "norule" ∷ []
verdict_fields (verdict.Rule n action) = counted (action_word action) n

-- a verdict after a blank
abbrev pub verdict_text : Verdict → List ℕ
verdict_text v = all_after 32 (verdict_fields v)

-- a number in hexadecimal after `0x`, or a string between quotes
abbrev pub argument_field : Arg → List ℕ
argument_field (Num n) = codes "0x" ++ hexadecimal n
argument_field (Str units) = quoted units

-- an argument after a blank
abbrev pub argument_text : Arg → List ℕ
argument_text arg = after_separator 32 (argument_field arg)

-- a call that was performed, with its arguments and the rule that allowed it
abbrev pub performed_fields : List ℕ → List Arg → Action → ℕ → List (List ℕ)
performed_fields call args action n = codes "performed" ∷ call ∷ (map argument_field args ++ verdict_fields (verdict.Rule n action))

-- a decision: its fault, or its call with the rule that decided
abbrev pub decision_fields : ShownDecision → List (List ℕ)
decision_fields (Refused fault) = codes "refused" ∷ fault_fields fault
decision_fields (NoRule tag) = codes "denied" ∷ call_word tag ∷ verdict_fields verdict.NoRule
decision_fields (Denied tag n) = codes "denied" ∷ call_word tag ∷ verdict_fields (verdict.Rule n action.Deny)
decision_fields (Alarmed tag n) = codes "denied" ∷ call_word tag ∷ verdict_fields (verdict.Rule n action.Alarm)
decision_fields (Faked tag n) = codes "faked" ∷ call_word tag ∷ counted (codes "rule") n
decision_fields (Allowed tag args n) = performed_fields (call_word tag) args action.Allow n
decision_fields (ReadOnly tag args n) = performed_fields (call_word tag) args action.ReadOnly n

-- the outcome, status, handle and extended words of a reply
abbrev pub reply_fields : ShownReply → List (List ℕ)
reply_fields r = decimal r.outcome ∷ eight_digits r.status ∷ decimal r.handle ∷ (91 ∷ (comma_words r.ext ++ 93 ∷ [])) ∷ []

-- what became of a statement
abbrev pub result_fields : ShownResult → List (List ℕ)
result_fields (Reply channel reply) = codes "reply" ∷ decimal channel ∷ reply_fields reply
result_fields NoChannel = codes "no-channel" ∷ []
result_fields (SendLost channel found) = codes "send-lost" ∷ decimal channel ∷ decimal found ∷ []
result_fields (Foreign channel mark) = codes "foreign" ∷ decimal channel ∷ decimal mark ∷ []
result_fields (TimedOut channel) = counted (codes "timed-out") channel
result_fields Stored = codes "stored" ∷ []
result_fields (Found value) = counted (codes "found") value
result_fields (Met loads) = counted (codes "met") loads
result_fields (Unmet loads) = counted (codes "unmet") loads

-- the number, target, channel and mark of an entry
abbrev pub place_fields : EntryLine → List (List ℕ)
place_fields e = decimal e.number ∷ e.target ∷ decimal e.channel ∷ codes "mark" ∷ decimal e.mark ∷ []

-- an entry: where it is, what was decided, and what was replied
abbrev pub entry_fields : EntryLine → List (List ℕ)
entry_fields e = place_fields e ++ (decision_fields e.decision ++ codes "reply" ∷ reply_fields e.reply)

-- a result: its target, thread and place, and what became of the statement there
abbrev pub result_line_fields : ResultLine → List (List ℕ)
result_line_fields r = r.target ∷ decimal r.thread ∷ decimal r.place ∷ result_fields r.result

-- the counts of entries, of each decision, and of results
abbrev pub totals_fields : TotalsLine → List (List ℕ)
totals_fields t =
    codes "entries" ∷ decimal t.entries ∷ codes "performed" ∷ decimal t.performed ∷ codes "faked" ∷ decimal t.faked
    ∷ codes "denied" ∷ decimal t.denied ∷ codes "refused" ∷ decimal t.refused ∷ codes "results" ∷ decimal t.results ∷ []

-- the first word of a line
abbrev pub first_word : Line → List ℕ
first_word (line.Entry e) = codes "entry"
first_word (line.Result r) = codes "result"
first_word (line.Totals t) = codes "total"

-- the fields after it
abbrev pub line_fields : Line → List (List ℕ)
line_fields (line.Entry e) = entry_fields e
line_fields (line.Result r) = result_line_fields r
line_fields (line.Totals t) = totals_fields t

-- a line, without its LF
abbrev pub written : Line → List ℕ
written l = first_word l ++ all_after 32 (line_fields l)

-- a line with its LF
abbrev pub ended : Line → List ℕ
ended l = written l ++ codes "\n"
