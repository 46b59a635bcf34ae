-- The lines about a decision. Those of an entry come below its line, each after two spaces.
use Rattle.std.specs.Prelude.{ℕ, List, [], ◌∷◌, ◌++◌, length, Option, None, Some, codes}
use Rattle.std.specs.Fmt.{decimal}
use Rattle.std.specs.List.{flat_map}
use Rattle.sb_block.specs.Copies.{Copied}
use Rattle.sb_block.specs.declared.faults.BlockFault.{BlockFault}
use Rattle.sb_book.specs.Decisions.{read_only_args}
use Rattle.sb_call.specs.Arguments.{arg_at}
use Rattle.sb_call.specs.CallWords.{call_word}
use Rattle.sb_call.specs.declared.arguments.Arg.{Arg}
use Rattle.sb_call.specs.declared.tags.CallTag.{CallTag}
use Rattle.sb_explain.specs.Marks.{call_of_mark}
use Rattle.sb_explain.specs.Reasons.{Reason, Holds, Fails}
use Rattle.sb_explain.specs.LineNumbers.{line_of_statement}
use Rattle.sb_explain.specs.declared.marks.CallPlace.{CallPlace}
use Rattle.sb_rule.specs.declared.actions.Action.{Action}
use Rattle.sb_rule.specs.declared.actions.Action.TheVariants.{Allow, Deny, Alarm, Fake, ReadOnly}
use Rattle.sb_rule.specs.declared.conditions.Cond.{Cond}
use Rattle.sb_rule.specs.declared.policies.Rule.{Rule}
use Rattle.sb_rule.specs.declared.verdicts.Verdict.{Verdict}
use Rattle.sb_rule.specs.declared.verdicts.Verdict.TheVariants as verdict
use Rattle.sb_ruletext.specs.Printing.{cond_tokens, spaced}
use Rattle.sb_statements.specs.Scripts.{target_name}
use Rattle.sb_statements.specs.declared.scripts.Script.{Script}
use Rattle.sb_transcript.specs.EntryLines.{argument_field, argument_text, fault_text}

-- a call of a target: `TARGET THREAD PLACE line L`; or `no call`
abbrev pub place_text : Script → List ℕ → ℕ → Option CallPlace → List ℕ
place_text script lines target None = codes "no call"
place_text script lines target (Some call) =
    target_name script target ++ codes " " ++ decimal call.thread ++ codes " " ++ decimal call.place
    ++ codes " line " ++ decimal (line_of_statement script lines target call)

-- the call of a target that has this mark
abbrev pub mark_text : Script → List ℕ → ℕ → ℕ → List ℕ
mark_text script lines target mark = place_text script lines target (call_of_mark script target mark)

-- `mark of TARGET THREAD PLACE line L`, or `mark of no call`
abbrev pub mark_line : Script → List ℕ → ℕ → ℕ → List ℕ
mark_line script lines target mark = codes "  mark of " ++ mark_text script lines target mark ++ codes "\n"

-- `copy CALL ARG ..`
abbrev pub copy_line : CallTag → List Arg → List ℕ
copy_line tag args = codes "  copy " ++ call_word tag ++ flat_map argument_text args ++ codes "\n"

-- `copy refused FAULT count N words W`: the count that was loaded before the copy, and how many words were copied
abbrev pub refused_line : BlockFault → Copied → List ℕ
refused_line fault taken =
    codes "  copy refused" ++ fault_text fault ++ codes " count " ++ decimal taken.count_seen ++ codes " words " ++ decimal (length taken.words) ++ codes "\n"

-- `rule L holds`
abbrev pub holds_line : Rule → List ℕ
holds_line rule = codes "  rule " ++ decimal rule.line ++ codes " holds\n"

-- `rule L fails: COND (VALUE)`: the condition as a policy prints it, and the argument of its parameter
abbrev pub fails_line : CallTag → List Arg → Rule → Cond → List ℕ
fails_line tag args rule cond =
    codes "  rule " ++ decimal rule.line ++ codes " fails:" ++ spaced (cond_tokens tag cond) ++ codes " (" ++ argument_field (arg_at args cond.param) ++ codes ")\n"

-- `performed with CALL ARG ..`: what `readonly` grants of a call
abbrev pub granted_line : CallTag → List Arg → List ℕ
granted_line tag args = codes "  performed with " ++ call_word tag ++ flat_map argument_text (read_only_args args) ++ codes "\n"

-- `no rule holds`
abbrev pub no_rule_line : List ℕ
no_rule_line = codes "  no rule holds\n"

-- the arguments that are granted, if they may differ from those of the copy
abbrev pub granted_lines : CallTag → List Arg → Action → List (List ℕ)
granted_lines tag args ReadOnly = granted_line tag args ∷ []
granted_lines tag args Allow = []
granted_lines tag args Deny = []
granted_lines tag args Alarm = []
granted_lines tag args Fake = []

-- a line for each reason, and what the last one comes to
abbrev pub reason_lines : CallTag → List Arg → List Reason → List (List ℕ)
reason_lines tag args [] = no_rule_line ∷ []
reason_lines tag args (Fails rule cond ∷ reasons) = fails_line tag args rule cond ∷ reason_lines tag args reasons
reason_lines tag args (Holds rule ∷ reasons) = holds_line rule ∷ granted_lines tag args rule.action

-- what is done by a rule with this action, before the line of the rule
abbrev pub action_text : Action → List ℕ
action_text Allow = codes "performed rule "
action_text Deny = codes "denied rule "
action_text Alarm = codes "denied alarm "
action_text Fake = codes "faked rule "
action_text ReadOnly = codes "performed readonly "

-- a verdict: what is done, and the line of the rule that decides
abbrev pub verdict_text : Verdict → List ℕ
verdict_text verdict.NoRule = codes "denied norule"
verdict_text (verdict.Rule line action) = action_text action ++ decimal line

-- `verdict VERDICT`
abbrev pub verdict_line : Verdict → List ℕ
verdict_line verdict = codes "verdict " ++ verdict_text verdict ++ codes "\n"

-- `no entry N of E`
abbrev pub no_entry_line : ℕ → ℕ → List ℕ
no_entry_line entry count = codes "no entry " ++ decimal entry ++ codes " of " ++ decimal count ++ codes "\n"
