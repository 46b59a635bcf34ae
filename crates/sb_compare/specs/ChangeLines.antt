-- The lines of changes.
use Rattle.std.specs.Prelude.{ℕ, List, [], ◌++◌, codes, if◌then◌else◌}
use Rattle.std.specs.Fmt.{decimal}
use Rattle.std.specs.List.{flat_map}
use Rattle.sb_base.specs.Numbers.{hexadecimal}
use Rattle.sb_call.specs.CallWords.{call_word}
use Rattle.sb_call.specs.declared.arguments.Arg.{Arg}
use Rattle.sb_call.specs.declared.arguments.Arg.TheVariants as arg
use Rattle.sb_call.specs.declared.tags.CallTag.{CallTag}
use Rattle.sb_cover.specs.Lengths.{is_sendable}
use Rattle.sb_rule.specs.declared.actions.Action.TheVariants.{Allow, Deny, Alarm, Fake, ReadOnly}
use Rattle.sb_rule.specs.declared.verdicts.Verdict.{Verdict}
use Rattle.sb_rule.specs.declared.verdicts.Verdict.TheVariants as verdict
use Rattle.sb_text.specs.Tokens.{utf8_of}
use Rattle.sb_transcript.specs.Fields.{verdict_text}
use Rattle.sb_compare.specs.declared.changes.Change.{Change}
use Rattle.sb_compare.specs.declared.changes.ShownChange.{ShownChange}

-- what is done with a call
abbrev pub outcome_word : Verdict → List ℕ
outcome_word verdict.NoRule = codes "denied"
outcome_word (verdict.Rule line Allow) = codes "performed"
outcome_word (verdict.Rule line ReadOnly) = codes "performed"
outcome_word (verdict.Rule line Fake) = codes "faked"
outcome_word (verdict.Rule line Deny) = codes "denied"
outcome_word (verdict.Rule line Alarm) = codes "denied"

-- the rule that decides, after a blank, as the transcript has it in the line of a call
abbrev pub rule_text : Verdict → List ℕ
rule_text verdict.NoRule = verdict_text verdict.NoRule
rule_text (verdict.Rule line Allow) = verdict_text (verdict.Rule line Allow)
rule_text (verdict.Rule line ReadOnly) = verdict_text (verdict.Rule line ReadOnly)
rule_text (verdict.Rule line Fake) = codes " rule " ++ decimal line
rule_text (verdict.Rule line Deny) = verdict_text (verdict.Rule line Deny)
rule_text (verdict.Rule line Alarm) = verdict_text (verdict.Rule line Alarm)

-- a verdict: `performed rule L`, `performed readonly L`, `faked rule L`, `denied rule L`, `denied alarm L` or `denied norule`
abbrev pub verdict_words : Verdict → List ℕ
verdict_words verdict = outcome_word verdict ++ rule_text verdict

-- an argument after a blank: a number in hexadecimal after `0x`, or a string between quotes as it is
abbrev pub argument_text : Arg → List ℕ
argument_text (arg.Num number) = codes " 0x" ++ hexadecimal number
argument_text (arg.Str units) = codes " \"" ++ utf8_of units ++ codes "\""

-- a call, as a script has it: `call CALL ARG ..`
abbrev pub call_text : CallTag → List Arg → List ℕ
call_text tag args = codes "call " ++ call_word tag ++ flat_map argument_text args

-- what follows a call that cannot be sent
abbrev pub length_text : List Arg → List ℕ
length_text args = if is_sendable args then [] else codes " (longer than a block)"

-- both verdicts of a change: `OLD -> NEW`
abbrev pub verdicts_text : Change → List ℕ
verdicts_text change = verdict_words change.old ++ codes " -> " ++ verdict_words change.new

-- what comes before the call: `changed POLICY OLD -> NEW: `
abbrev pub change_head : ShownChange → List ℕ
change_head shown = codes "changed " ++ shown.policy ++ codes " " ++ verdicts_text shown.change ++ codes ": "

-- the line of a change: `changed POLICY OLD -> NEW: call CALL ARG ..`
abbrev pub change_line : ShownChange → List ℕ
change_line shown = change_head shown ++ call_text shown.tag shown.call ++ length_text shown.call ++ codes "\n"
