-- Every message is clean.
use Rattle.std.proofs.Common.{◌≡◌, ℕ, Bool, true, false, cond, nat_lt, List, [], ◌∷◌, ◌++◌, Option, None, Some, codes, refl, subst, sym, arith}
use Rattle.std.proofs.lemmas.Bool.{and_from, and_parts}
use Rattle.std.proofs.lemmas.Bool.Decides.{nat_tests}
use Rattle.std.specs.Fmt.{decimal}
use Rattle.std.specs.List.{list_all}
use Rattle.sb_audit.specs.declared.answers.Refuted.{Refuted}
use Rattle.sb_audit.specs.declared.dues.Due.{Due}
use Rattle.sb_audit.specs.declared.dues.Due.TheVariants as due
use Rattle.sb_audit.specs.declared.dues.FormDue.{FormDue}
use Rattle.sb_audit.specs.declared.dues.FormDue.TheVariants as form
use Rattle.sb_audit.specs.declared.dues.OwnDue.{OwnDue}
use Rattle.sb_audit.specs.declared.dues.OwnDue.TheVariants as own
use Rattle.sb_audit.specs.declared.dues.PlaceDue.{PlaceDue}
use Rattle.sb_audit.specs.declared.dues.PlaceDue.TheVariants as place
use Rattle.sb_audit.specs.declared.dues.ReplyDue.{ReplyDue}
use Rattle.sb_audit.specs.declared.dues.ReplyDue.TheVariants as reply
use Rattle.sb_audit.specs.declared.dues.ResultDue.{ResultDue}
use Rattle.sb_audit.specs.declared.dues.ResultDue.TheVariants as result
use Rattle.sb_audit.specs.declared.dues.RuleDue.{RuleDue}
use Rattle.sb_audit.specs.declared.dues.RuleDue.TheVariants as rule
use Rattle.sb_audit.specs.declared.spots.Spot.{Spot}
use Rattle.sb_call.specs.CallWords.{call_word}
use Rattle.sb_call.specs.declared.tags.CallTag.{CallTag}
use Rattle.sb_call.specs.declared.tags.CallTag.TheVariants.{Ping, FileCreate, FileOpen, FileQuery, FileRename, PipeCreate, KeyCreate, KeyOpen, EventCreate, EventOpen, HandleClose}
use Rattle.sb_transcript.specs.declared.read_lines.TotalsLine.{TotalsLine}
use Rattle.sb_rule.specs.Actions.{action_word}
use Rattle.sb_rule.specs.declared.actions.Action.{Action}
use Rattle.sb_rule.specs.declared.actions.Action.TheVariants as action
use Rattle.sb_rule.specs.declared.verdicts.Verdict.{Verdict}
use Rattle.sb_rule.specs.declared.verdicts.Verdict.TheVariants as verdict
use Rattle.sb_base.specs.Numbers.{hexadecimal}
use Rattle.sb_commands.specs.Commands.{name_at}
use Rattle.sb_commands.specs.Usage.{fault_of}
use Rattle.sb_commands.specs.UsageLaws.{UsageMessagesAreClean}
use Rattle.sb_message.specs.declared.statuses.Difference.{Difference}
use Rattle.sb_message.specs.declared.statuses.Difference.TheVariants.{Policies, Claims, Notes, NoEntry}
use Rattle.sb_message.specs.declared.statuses.FileRefusal.{FileRefusal}
use Rattle.sb_message.specs.declared.statuses.FileRefusal.TheVariants.{Missing, TooLong, ReadFault}
use Rattle.sb_message.specs.declared.statuses.Refusal.{Refusal}
use Rattle.sb_message.specs.declared.statuses.Refusal.TheVariants.{Usage, File, Text, TooComplex, NoMemory}
use Rattle.sb_message.specs.declared.statuses.Status.{Status}
use Rattle.sb_message.specs.declared.statuses.Status.TheVariants.{Done, Differs, Unfinished, WriteFault, Refused}
use Rattle.sb_message.specs.declared.text_faults.TextFault.{TextFault}
use Rattle.sb_message.specs.declared.text_faults.TextFault.TheVariants as text
use Rattle.sb_message.specs.AuditMessages.{audit_headline, audit_first_line, audit_line, audit_message}
use Rattle.sb_message.specs.Causes.{HasNumbers, are_words, cause_text, is_printable, two_text}
use Rattle.sb_glyphs.specs.CleanTexts.{IsClean}
use Rattle.sb_message.specs.DueTexts.{form_words, clause_words, number_text, entry_text, spot_text, form_text, place_text, verdict_text, rule_text, reply_text, own_text, result_text, status_text, totals_text, due_text}
use Rattle.sb_outside.specs.declared.files.ReadCause.{ReadCause}
use Rattle.sb_outside.specs.declared.files.ReadCause.TheVariants as said
use Rattle.sb_outside.specs.declared.sink.SinkFault.{SinkFault}
use Rattle.sb_outside.specs.declared.sink.SinkFault.TheVariants.{Closed, Full, Failed}
use Rattle.sb_text.specs.MissingTexts.{or_empty}
use Rattle.sb_message.specs.StatusMessages.{IsFaultMessage, IsMessageOf, IsRefusalMessage, cause_words, file_words, length_words, line_message, notes_by, write_message}
use Rattle.sb_message.specs.Statuses.{difference_text, file_text, line_of, text_of}
use Rattle.sb_glyphs.specs.Glyphs.{shown_bytes, glyphs_of}
use Rattle.sb_message.specs.MessageLaws.{IsOfArguments, MessagesAreClean}
use Rattle.sb_message.specs.declared.messages.NumberedFault.{NumberedFault}
use Rattle.sb_message.specs.Messages.{IsMessage, place_line}
use Rattle.sb_glyphs.specs.Excerpts.{excerpt}
use Rattle.sb_message.specs.Places.{named_at}
use Rattle.sb_glyphs.proofs.CleanLaws.{is_plain, Spelled, clean_of, both, three, four, five, six, nothing, plain, decimal_clean, hexadecimal_clean, bytes_clean, line_excerpt_clean, feed}
use Rattle.sb_message.proofs.CleanNotes.{notes_clean}
use Rattle.sb_message.proofs.CleanPlaces.{named_clean, place_clean, fault_clean}

-- ---- words

printable_plain : (b : ℕ) → is_printable b ≡ true → is_plain b ≡ true
printable_plain b h = grind (arith, nat_tests, h)

all_plain : (bs : List ℕ) → are_words bs ≡ true → list_all is_plain bs ≡ true
all_plain [] h = refl
all_plain (b ∷ bs) h =
    let parts = and_parts (is_printable b) (are_words bs) h in
    and_from (is_plain b) (list_all is_plain bs) (printable_plain b parts.0) (all_plain bs parts.1)

words_clean : (bs : List ℕ) → are_words bs ≡ true → Spelled bs
words_clean bs h = plain bs (all_plain bs h)

with_numbers_clean : (numbers text : List ℕ) → HasNumbers numbers text → Spelled text
with_numbers_clean [] text h = words_clean text h
with_numbers_clean (n ∷ numbers) text (before, after, b, t, more) =
    subst Spelled (sym t) (both before (decimal n ++ after) (words_clean before b) (both (decimal n) after (decimal_clean n) (with_numbers_clean numbers after more)))

numbered_clean : (before between : List ℕ) (first second : ℕ) → Spelled before → Spelled between → Spelled (two_text before first between second)
numbered_clean before between first second hb hm =
    four before (decimal first) between (decimal second) hb (decimal_clean first) hm (decimal_clean second)

by_test : (b : Bool) (x y : List ℕ) → Spelled x → Spelled y → Spelled (cond b x y)
by_test true x y hx hy = hx
by_test false x y hx hy = hy

-- ---- faults of texts

cause_clean : (words : List ℕ) (names_token : Bool) (named hint : List ℕ) → Spelled words → Spelled named → Spelled hint
    → Spelled (cause_text words names_token named hint)
cause_clean words names_token named hint hw hn hh = three words (cond names_token named []) hint hw (by_test names_token named [] hn nothing) hh

message_clean : (fault : NumberedFault) (numbers : List ℕ) (names_token : Bool) (file line text : List ℕ) → IsMessage fault numbers names_token file line text → IsClean text
message_clean fault numbers names_token file line text m =
    let named = named_at fault.text fault.column line in
    subst IsClean (sym m.is)
    (fault_clean fault (cause_text m.words names_token named m.hint) file line
    (cause_clean m.words names_token named m.hint (with_numbers_clean numbers m.words m.numbered) (named_clean fault.text fault.column line) (words_clean m.hint m.plain)))

-- ---- the audit

number_clean : (before : List ℕ) (n : ℕ) (after : List ℕ) → Spelled before → Spelled after → Spelled (number_text before n after)
number_clean before n after hb ha = three before (decimal n) after hb (decimal_clean n) ha

form_clean : (shown : Option (List ℕ)) → Spelled (form_words shown)
form_clean (Some line) = plain (codes "the line is not one that is due here") refl
form_clean None = plain (codes "the transcript ends where a line is due") refl

clause_clean : (d : Due) (shown : Option (List ℕ)) → Spelled (clause_words d shown)
clause_clean (due.Form d) shown = form_clean shown
clause_clean (due.Place (place.Target n)) shown = plain (codes "no such target") refl
clause_clean (due.Place (place.Channel n)) shown = plain (codes "no such channel") refl
clause_clean (due.Rule d) shown = plain (codes "the rule that is shown does not decide this call") refl
clause_clean (due.Reply d) shown = plain (codes "the reply is not the one that this call gets") refl
clause_clean (due.Own d) shown = plain (codes "no later call of the target with this mark is decided in this way") refl
clause_clean (due.Result d) shown = plain (codes "the result is not one that the statement can have") refl
clause_clean (due.Totals t) shown = plain (codes "the totals are not those of the lines") refl

entry_clean : (entry : Option ℕ) → Spelled (entry_text entry)
entry_clean None = nothing
entry_clean (Some n) = number_clean (codes "entry ") n (codes " or ") (plain (codes "entry ") refl) (plain (codes " or ") refl)

spot_clean : (spot : Option Spot) → Spelled (spot_text spot)
spot_clean None = plain (codes "the totals are due") refl
spot_clean (Some spot) =
    both (two_text (codes "the result of target ") spot.target (codes " thread ") spot.thread) (number_text (codes " place ") spot.place (codes " is due"))
    (numbered_clean (codes "the result of target ") (codes " thread ") spot.target spot.thread (plain (codes "the result of target ") refl) (plain (codes " thread ") refl))
    (number_clean (codes " place ") spot.place (codes " is due") (plain (codes " place ") refl) (plain (codes " is due") refl))

form_due_clean : (d : FormDue) → Spelled (form_text d)
form_due_clean form.LineFeed = plain (codes "a line feed at its end is due") refl
form_due_clean (form.Line entry spot) = both (entry_text entry) (spot_text spot) (entry_clean entry) (spot_clean spot)
form_due_clean form.End = plain (codes "nothing is due after the totals") refl

place_due_clean : (d : PlaceDue) → Spelled (place_text d)
place_due_clean (place.Target n) = number_clean (codes "the script has ") n [] (plain (codes "the script has ") refl) nothing
place_due_clean (place.Channel n) = number_clean (codes "the target has ") n [] (plain (codes "the target has ") refl) nothing

action_clean : (a : Action) → Spelled (action_word a)
action_clean action.Allow = plain (action_word action.Allow) refl
action_clean action.Deny = plain (action_word action.Deny) refl
action_clean action.Alarm = plain (action_word action.Alarm) refl
action_clean action.Fake = plain (action_word action.Fake) refl
action_clean action.ReadOnly = plain (action_word action.ReadOnly) refl

call_clean : (t : CallTag) → Spelled (call_word t)
call_clean Ping = plain (call_word Ping) refl
call_clean FileCreate = plain (call_word FileCreate) refl
call_clean FileOpen = plain (call_word FileOpen) refl
call_clean FileQuery = plain (call_word FileQuery) refl
call_clean FileRename = plain (call_word FileRename) refl
call_clean PipeCreate = plain (call_word PipeCreate) refl
call_clean KeyCreate = plain (call_word KeyCreate) refl
call_clean KeyOpen = plain (call_word KeyOpen) refl
call_clean EventCreate = plain (call_word EventCreate) refl
call_clean EventOpen = plain (call_word EventOpen) refl
call_clean HandleClose = plain (call_word HandleClose) refl

verdict_clean : (v : Verdict) → Spelled (verdict_text v)
verdict_clean verdict.NoRule = plain (codes "no rule of the policy matches it") refl
verdict_clean (verdict.Rule line a) =
    both (number_text (codes "the policy decides it by the rule on line ") line (codes ": ")) (action_word a)
    (number_clean (codes "the policy decides it by the rule on line ") line (codes ": ") (plain (codes "the policy decides it by the rule on line ") refl) (plain (codes ": ") refl))
    (action_clean a)

rule_due_clean : (d : RuleDue) → Spelled (rule_text d)
rule_due_clean rule.FittingArgs = plain (codes "its arguments do not fit it") refl
rule_due_clean (rule.Decided v) = verdict_clean v
rule_due_clean (rule.RuleOn line a) =
    three (codes "the policy has no ") (action_word a) (number_text (codes " rule for it on line ") line []) (plain (codes "the policy has no ") refl) (action_clean a)
    (number_clean (codes " rule for it on line ") line [] (plain (codes " rule for it on line ") refl) nothing)
rule_due_clean (rule.Without bits) =
    both (codes "its access has bits that do more than read: 0x") (hexadecimal bits) (plain (codes "its access has bits that do more than read: 0x") refl)
    (hexadecimal_clean bits)

status_clean : (outcome status : ℕ) → Spelled (status_text outcome status)
unfolding status_text
status_clean outcome status =
    both (number_text (codes "outcome ") outcome (codes ", status 0x")) (hexadecimal status)
    (number_clean (codes "outcome ") outcome (codes ", status 0x") (plain (codes "outcome ") refl) (plain (codes ", status 0x") refl)) (hexadecimal_clean status)

reply_due_clean : (d : ReplyDue) → Spelled (reply_text d)
reply_due_clean (reply.Whole outcome status handle words) =
    both (status_text outcome status) (two_text (codes ", handle ") handle (codes ", extended words: ") words) (status_clean outcome status)
    (numbered_clean (codes ", handle ") (codes ", extended words: ") handle words (plain (codes ", handle ") refl) (plain (codes ", extended words: ") refl))
reply_due_clean (reply.Word n value) =
    numbered_clean (codes "its extended word ") (codes " is ") n value (plain (codes "its extended word ") refl) (plain (codes " is ") refl)

own_due_clean : (d : OwnDue) → Spelled (own_text d)
own_due_clean own.CallMark = plain (codes "the mark is not that of a call") refl
own_due_clean (own.Decision tag v) =
    four (codes "the call is ") (call_word tag) (codes " with the arguments of the script, and ") (verdict_text v) (plain (codes "the call is ") refl) (call_clean tag) (plain (codes " with the arguments of the script, and ") refl)
    (verdict_clean v)
own_due_clean (own.Later thread at) =
    both (two_text (codes "an earlier entry is that of the call of thread ") thread (codes " at place ") at) (codes " or of a later one")
    (numbered_clean (codes "an earlier entry is that of the call of thread ") (codes " at place ") thread at
    (plain (codes "an earlier entry is that of the call of thread ") refl) (plain (codes " at place ") refl))
    (plain (codes " or of a later one") refl)

result_due_clean : (d : ResultDue) → Spelled (result_text d)
result_due_clean result.Statement = plain (codes "there is none at this place") refl
result_due_clean (result.ReplyOf mark) =
    number_clean (codes "the reply of the entry with mark ") mark (codes " is due") (plain (codes "the reply of the entry with mark ") refl) (plain (codes " is due") refl)
result_due_clean (result.Entry channel mark) =
    numbered_clean (codes "no entry on channel ") (codes ", which is clean, has mark ") channel mark (plain (codes "no entry on channel ") refl)
    (plain (codes ", which is clean, has mark ") refl)
result_due_clean result.Channel = plain (codes "a clean channel of the target is free for it") refl
result_due_clean (result.CleanReply channel) =
    number_clean (codes "a reply is due on channel ") channel (codes ", which is clean") (plain (codes "a reply is due on channel ") refl) (plain (codes ", which is clean") refl)
result_due_clean result.OtherState = plain (codes "a send is lost only if its channel is not found busy") refl
result_due_clean (result.OtherMark mark) =
    number_clean (codes "the mark of a foreign reply is not the call's own, ") mark [] (plain (codes "the mark of a foreign reply is not the call's own, ") refl) nothing
result_due_clean result.OfCall = plain (codes "it is a call") refl
result_due_clean result.OfStore = plain (codes "it is a store") refl
result_due_clean result.OfLoad = plain (codes "it is an exchange or a load") refl
result_due_clean (result.OfWait most) =
    number_clean (codes "it is a wait whose limit of loads is ") most [] (plain (codes "it is a wait whose limit of loads is ") refl) nothing

totals_due_clean : (t : TotalsLine) → Spelled (totals_text t)
totals_due_clean t =
    three (two_text (codes "entries ") t.entries (codes " performed ") t.performed) (two_text (codes " faked ") t.faked (codes " denied ") t.denied)
    (two_text (codes " refused ") t.refused (codes " results ") t.results)
    (numbered_clean (codes "entries ") (codes " performed ") t.entries t.performed (plain (codes "entries ") refl) (plain (codes " performed ") refl))
    (numbered_clean (codes " faked ") (codes " denied ") t.faked t.denied (plain (codes " faked ") refl) (plain (codes " denied ") refl))
    (numbered_clean (codes " refused ") (codes " results ") t.refused t.results (plain (codes " refused ") refl) (plain (codes " results ") refl))

due_clean : (d : Due) → Spelled (due_text d)
due_clean (due.Form d) = form_due_clean d
due_clean (due.Place d) = place_due_clean d
due_clean (due.Rule d) = rule_due_clean d
due_clean (due.Reply d) = reply_due_clean d
due_clean (due.Own d) = own_due_clean d
due_clean (due.Result d) = result_due_clean d
due_clean (due.Totals t) = totals_due_clean t

audit_line_clean : (shown : Option (List ℕ)) → Spelled (audit_line shown)
audit_line_clean None = nothing
audit_line_clean (Some line) = both (excerpt 0 (glyphs_of line)) (10 ∷ []) (line_excerpt_clean 0 line) feed

audit_headline_clean : (line clause : ℕ) → Spelled (audit_headline line clause)
audit_headline_clean line clause =
    numbered_clean (codes "sandbox: audit line ") (codes " clause ") line clause (plain (codes "sandbox: audit line ") refl) (plain (codes " clause ") refl)

audit_first_clean : (refuted : Refuted) (shown : Option (List ℕ)) → Spelled (audit_first_line refuted shown)
audit_first_clean refuted shown =
    six (audit_headline refuted.line refuted.clause) (codes ": ") (clause_words refuted.due shown) (codes ": ") (due_text refuted.due) (10 ∷ [])
    (audit_headline_clean refuted.line refuted.clause) (plain (codes ": ") refl) (clause_clean refuted.due shown) (plain (codes ": ") refl)
    (due_clean refuted.due) feed

audit_clean : (file : List ℕ) (refuted : Refuted) (shown : Option (List ℕ)) → IsClean (audit_message file refuted shown)
audit_clean file refuted shown =
    clean_of (audit_message file refuted shown)
    (three (audit_first_line refuted shown) (place_line file refuted.line 0) (audit_line shown) (audit_first_clean refuted shown) (place_clean file refuted.line 0)
    (audit_line_clean shown))

-- ---- lines of statuses

causes_clean : (cause : ReadCause) → Spelled (cause_words cause)
causes_clean said.Directory = plain (cause_words said.Directory) refl
causes_clean said.Denied = plain (cause_words said.Denied) refl
causes_clean said.NoDirectory = plain (cause_words said.NoDirectory) refl
causes_clean said.Loop = plain (cause_words said.Loop) refl
causes_clean said.Other = plain (cause_words said.Other) refl

lengths_clean : (which : ℕ) → Spelled (length_words which)
lengths_clean which =
    by_test (nat_lt which 3) (codes " has more than 4194304 bytes") (codes " has more than 4194304 bytes, or as a transcript more than 536870912")
    (plain (codes " has more than 4194304 bytes") refl) (plain (codes " has more than 4194304 bytes, or as a transcript more than 536870912") refl)

file_words_clean : (which : ℕ) (why : FileRefusal) → Spelled (file_words which why)
file_words_clean which Missing = plain (codes " does not exist") refl
file_words_clean which TooLong = lengths_clean which
file_words_clean which (ReadFault cause) = causes_clean cause

-- words and a number
with_number : (before : List ℕ) (n : ℕ) → Spelled before → Spelled (before ++ decimal n)
with_number before n h = both before (decimal n) h (decimal_clean n)

-- words, a number, and what is after it
around_number : (before : List ℕ) (n : ℕ) (after : List ℕ) → Spelled before → Spelled after → Spelled (before ++ (decimal n ++ after))
around_number before n after h k = both before (decimal n ++ after) h (both (decimal n) after (decimal_clean n) k)

around_numbers : (before : List ℕ) (n : ℕ) (between : List ℕ) (m : ℕ) → Spelled before → Spelled between → Spelled (before ++ (decimal n ++ (between ++ decimal m)))
around_numbers before n between m h k = around_number before n (between ++ decimal m) h (with_number between m k)

file_text_clean : (which : ℕ) (why : FileRefusal) → Spelled (file_text which why)
file_text_clean which Missing = with_number (codes "missing file ") which (plain (codes "missing file ") refl)
file_text_clean which TooLong = around_number (codes "file ") which (codes " too long") (plain (codes "file ") refl) (plain (codes " too long") refl)
file_text_clean which (ReadFault cause) = with_number (codes "read fault in file ") which (plain (codes "read fault in file ") refl)

difference_clean : (difference : Difference) → Spelled (difference_text difference)
difference_clean (Policies changed single) =
    around_numbers (codes "changed ") changed (codes ", only in one file ") single (plain (codes "changed ") refl) (plain (codes ", only in one file ") refl)
difference_clean (Claims claims hold) = around_numbers (codes "claims ") claims (codes ", hold ") hold (plain (codes "claims ") refl) (plain (codes ", hold ") refl)
difference_clean (Notes notes) = with_number (codes "notes ") notes (plain (codes "notes ") refl)
difference_clean (NoEntry entry entries) = around_numbers (codes "no entry ") entry (codes " of ") entries (plain (codes "no entry ") refl) (plain (codes " of ") refl)

-- the line of a status, with words around some bytes
status_line_clean : (status : Status) (before named after : List ℕ) → Spelled (text_of status) → Spelled before → Spelled after
    → IsClean (line_message status before named after)
status_line_clean status before named after h hb ha =
    clean_of (line_message status before named after)
    (five (line_of status) before (shown_bytes named) after (10 ∷ []) (both (codes "sandbox: ") (text_of status) (plain (codes "sandbox: ") refl) h) hb
    (bytes_clean named) ha feed)

-- ---- ends

text_fault_clean : (file : List ℕ) (fault : TextFault) (shown : Option (List ℕ)) (text : List ℕ) → IsFaultMessage file fault shown text → IsClean text
text_fault_clean file (text.Policy fault) shown text m = message_clean _ _ _ file (or_empty shown) text m
text_fault_clean file (text.Script fault) shown text m = message_clean _ _ _ file (or_empty shown) text m
text_fault_clean file (text.Schedule fault) shown text m = message_clean _ _ _ file (or_empty shown) text m
text_fault_clean file (text.Links fault) shown text m = message_clean _ _ _ file (or_empty shown) text m
text_fault_clean file (text.Moves fault) shown text m = message_clean _ _ _ file (or_empty shown) text m
text_fault_clean file (text.Transcript refuted) shown text m = subst IsClean (sym m) (audit_clean file refuted shown)

refusal_clean : UsageMessagesAreClean → (words names : List (List ℕ)) (refusal : Refusal) (shown : Option (List ℕ)) (text : List ℕ)
    → IsOfArguments words (Refused refusal) → IsRefusalMessage words names refusal shown text → IsClean text
refusal_clean usage words names (Usage fault) shown text of m = subst IsClean (sym m) (usage words (fault_of fault) of)
refusal_clean usage words names (File which why) shown text of m =
    subst IsClean (sym m)
    (status_line_clean (Refused (File which why)) (codes ": ") (name_at which names) (file_words which why) (file_text_clean which why) (plain (codes ": ") refl) (file_words_clean which why))
refusal_clean usage words names (Text which fault) shown text of m = text_fault_clean (name_at which names) fault shown text m
refusal_clean usage words names (TooComplex call) shown text of m =
    subst IsClean (sym m)
    (status_line_clean (Refused (TooComplex call)) (codes " of ") (or_empty shown) []
    (both (codes "too complex: ") (call_word call) (plain (codes "too complex: ") refl) (call_clean call)) (plain (codes " of ") refl) nothing)
refusal_clean usage words names NoMemory shown text of m =
    subst IsClean (sym m)
    (status_line_clean (Refused NoMemory) (codes ": out of memory") [] [] (plain (codes "no memory") refl) (plain (codes ": out of memory") refl) nothing)

write_clean : (fault : SinkFault) → IsClean (write_message fault)
write_clean Closed = clean_of [] nothing
write_clean Full =
    status_line_clean (WriteFault Full) (codes ": standard output is full, and does not wait") [] [] (plain (codes "write fault") refl)
    (plain (codes ": standard output is full, and does not wait") refl) nothing
write_clean Failed =
    status_line_clean (WriteFault Failed) (codes ": standard output cannot be written") [] [] (plain (codes "write fault") refl)
    (plain (codes ": standard output cannot be written") refl) nothing

notes_by_clean : (name : List ℕ) (shown : Option (List ℕ)) → IsClean (notes_by name shown)
notes_by_clean name None = clean_of [] nothing
notes_by_clean name (Some text) = notes_clean name text

end_clean : UsageMessagesAreClean → (words names : List (List ℕ)) (status : Status) (shown : Option (List ℕ)) (text : List ℕ)
    → IsOfArguments words status → IsMessageOf words names status shown text → IsClean text
end_clean usage words names Done shown text of m = subst IsClean (sym m) (notes_by_clean (name_at 1 names) shown)
end_clean usage words names (Differs difference) shown text of m =
    subst IsClean (sym m)
    (status_line_clean (Differs difference) [] [] []
    (both (codes "differs: ") (difference_text difference) (plain (codes "differs: ") refl) (difference_clean difference)) nothing nothing)
end_clean usage words names (Unfinished target thread) shown text of m =
    subst IsClean (sym m)
    (status_line_clean (Unfinished target thread) (codes ": the thread did not end") [] []
    (around_numbers (codes "unfinished: target ") target (codes " thread ") thread (plain (codes "unfinished: target ") refl) (plain (codes " thread ") refl))
    (plain (codes ": the thread did not end") refl) nothing)
end_clean usage words names (WriteFault fault) shown text of m = subst IsClean (sym m) (write_clean fault)
end_clean usage words names (Refused refusal) shown text of m = refusal_clean usage words names refusal shown text of m

pub messages_clean : UsageMessagesAreClean → MessagesAreClean
messages_clean usage = (
  λ file line text fault m. message_clean _ _ _ file line text m,
  λ file line text fault m. message_clean _ _ _ file line text m,
  λ file line text fault m. message_clean _ _ _ file line text m,
  λ file line text fault m. message_clean _ _ _ file line text m,
  λ file line text fault m. message_clean _ _ _ file line text m,
  audit_clean,
  end_clean usage,
)
