-- What was due at a line of a transcript at which a clause of the audit fails, in words.
use Rattle.std.specs.Prelude.{ℕ, Option, None, Some, List, [], ◌++◌, codes}
use Rattle.std.specs.Fmt.{decimal}
use Rattle.sb_audit.specs.declared.dues.Due.{Due}
use Rattle.sb_audit.specs.declared.dues.Due.TheVariants.{Form, Place, Rule, Reply, Own, Result, Totals}
use Rattle.sb_audit.specs.declared.dues.FormDue.{FormDue}
use Rattle.sb_audit.specs.declared.dues.FormDue.TheVariants.{LineFeed, Line, End}
use Rattle.sb_audit.specs.declared.dues.OwnDue.{OwnDue}
use Rattle.sb_audit.specs.declared.dues.OwnDue.TheVariants.{CallMark, Decision, Later}
use Rattle.sb_audit.specs.declared.dues.PlaceDue.{PlaceDue}
use Rattle.sb_audit.specs.declared.dues.PlaceDue.TheVariants as place
use Rattle.sb_audit.specs.declared.dues.ReplyDue.{ReplyDue}
use Rattle.sb_audit.specs.declared.dues.ReplyDue.TheVariants.{Whole, Word}
use Rattle.sb_audit.specs.declared.dues.ResultDue.{ResultDue}
use Rattle.sb_audit.specs.declared.dues.ResultDue.TheVariants as result
use Rattle.sb_audit.specs.declared.dues.RuleDue.{RuleDue}
use Rattle.sb_audit.specs.declared.dues.RuleDue.TheVariants.{FittingArgs, Decided, RuleOn, Without}
use Rattle.sb_audit.specs.declared.spots.Spot.{Spot}
use Rattle.sb_call.specs.CallWords.{call_word}
use Rattle.sb_transcript.specs.declared.read_lines.TotalsLine.{TotalsLine}
use Rattle.sb_rule.specs.Actions.{action_word}
use Rattle.sb_rule.specs.declared.verdicts.Verdict.{Verdict}
use Rattle.sb_rule.specs.declared.verdicts.Verdict.TheVariants as verdict
use Rattle.sb_base.specs.Numbers.{hexadecimal}
use Rattle.sb_message.specs.Causes.{two_text}

-- what is wrong with a line that fails clause 1, or with the end of a transcript that is too short
abbrev pub form_words : Option (List ℕ) → List ℕ
form_words (Some line) = codes "the line is not one that is due here"
form_words None = codes "the transcript ends where a line is due"

-- what is wrong with a line that fails the clause by which this is due
abbrev pub clause_words : Due → Option (List ℕ) → List ℕ
clause_words (Form due) shown = form_words shown
clause_words (Place (place.Target targets)) shown = codes "no such target"
clause_words (Place (place.Channel channels)) shown = codes "no such channel"
clause_words (Rule due) shown = codes "the rule that is shown does not decide this call"
clause_words (Reply due) shown = codes "the reply is not the one that this call gets"
clause_words (Own due) shown = codes "no later call of the target with this mark is decided in this way"
clause_words (Result due) shown = codes "the result is not one that the statement can have"
clause_words (Totals totals) shown = codes "the totals are not those of the lines"

-- words around a number
abbrev pub number_text : List ℕ → ℕ → List ℕ → List ℕ
number_text before n after = before ++ decimal n ++ after

-- the next entry, if it may follow
abbrev pub entry_text : Option ℕ → List ℕ
entry_text None = []
entry_text (Some n) = number_text (codes "entry ") n (codes " or ")

-- the result of a statement, or the totals
abbrev pub spot_text : Option Spot → List ℕ
spot_text None = codes "the totals are due"
spot_text (Some spot) =
    two_text (codes "the result of target ") spot.target (codes " thread ") spot.thread ++ number_text (codes " place ") spot.place (codes " is due")

abbrev pub form_text : FormDue → List ℕ
form_text LineFeed = codes "a line feed at its end is due"
form_text (Line entry spot) = entry_text entry ++ spot_text spot
form_text End = codes "nothing is due after the totals"

abbrev pub place_text : PlaceDue → List ℕ
place_text (place.Target targets) = number_text (codes "the script has ") targets []
place_text (place.Channel channels) = number_text (codes "the target has ") channels []

-- what the policy says of a call
abbrev pub verdict_text : Verdict → List ℕ
verdict_text verdict.NoRule = codes "no rule of the policy matches it"
verdict_text (verdict.Rule line action) = number_text (codes "the policy decides it by the rule on line ") line (codes ": ") ++ action_word action

abbrev pub rule_text : RuleDue → List ℕ
rule_text FittingArgs = codes "its arguments do not fit it"
rule_text (Decided v) = verdict_text v
rule_text (RuleOn line action) = codes "the policy has no " ++ action_word action ++ number_text (codes " rule for it on line ") line []
rule_text (Without bits) = codes "its access has bits that do more than read: 0x" ++ hexadecimal bits

-- the outcome and the status of a reply
unfoldable pub status_text : ℕ → ℕ → List ℕ
status_text outcome status = number_text (codes "outcome ") outcome (codes ", status 0x") ++ hexadecimal status

abbrev pub reply_text : ReplyDue → List ℕ
reply_text (Whole outcome status handle words) = status_text outcome status ++ two_text (codes ", handle ") handle (codes ", extended words: ") words
reply_text (Word n value) = two_text (codes "its extended word ") n (codes " is ") value

abbrev pub own_text : OwnDue → List ℕ
own_text CallMark = codes "the mark is not that of a call"
own_text (Decision tag v) = codes "the call is " ++ call_word tag ++ codes " with the arguments of the script, and " ++ verdict_text v
own_text (Later thread at) =
    two_text (codes "an earlier entry is that of the call of thread ") thread (codes " at place ") at ++ codes " or of a later one"

abbrev pub result_text : ResultDue → List ℕ
result_text result.Statement = codes "there is none at this place"
result_text (result.ReplyOf mark) = number_text (codes "the reply of the entry with mark ") mark (codes " is due")
result_text (result.Entry channel mark) = two_text (codes "no entry on channel ") channel (codes ", which is clean, has mark ") mark
result_text result.Channel = codes "a clean channel of the target is free for it"
result_text (result.CleanReply channel) = number_text (codes "a reply is due on channel ") channel (codes ", which is clean")
result_text result.OtherState = codes "a send is lost only if its channel is not found busy"
result_text (result.OtherMark mark) = number_text (codes "the mark of a foreign reply is not the call's own, ") mark []
result_text result.OfCall = codes "it is a call"
result_text result.OfStore = codes "it is a store"
result_text result.OfLoad = codes "it is an exchange or a load"
result_text (result.OfWait most) = number_text (codes "it is a wait whose limit of loads is ") most []

abbrev pub totals_text : TotalsLine → List ℕ
totals_text t =
    two_text (codes "entries ") t.entries (codes " performed ") t.performed ++ two_text (codes " faked ") t.faked (codes " denied ") t.denied
    ++ two_text (codes " refused ") t.refused (codes " results ") t.results

-- what is due
abbrev pub due_text : Due → List ℕ
due_text (Form due) = form_text due
due_text (Place due) = place_text due
due_text (Rule due) = rule_text due
due_text (Reply due) = reply_text due
due_text (Own due) = own_text due
due_text (Result due) = result_text due
due_text (Totals totals) = totals_text totals
