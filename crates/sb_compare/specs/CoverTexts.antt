-- What `cover` writes.
use Rattle.std.specs.Prelude.{◌≡◌, ℕ, List, [], ◌∷◌, ◌++◌, Option, None, Some, codes, if◌then◌else◌}
use Rattle.std.specs.Fmt.{decimal}
use Rattle.std.specs.List.{flat_map}
use Rattle.sb_call.specs.declared.arguments.Arg.{Arg}
use Rattle.sb_call.specs.declared.tags.CallTag.{CallTag}
use Rattle.sb_cover.specs.Lengths.{is_sendable}
use Rattle.sb_rule.specs.declared.policies.Policy.{Policy}
use Rattle.sb_rule.specs.declared.verdicts.Verdict.{Verdict}
use Rattle.sb_rule.specs.declared.verdicts.Verdict.TheVariants as verdict
use Rattle.sb_call.specs.CallWords.{every_tag}
use Rattle.sb_compare.specs.ChangeLines.{call_text}
use Rattle.sb_compare.specs.Decided.{AreAllDecided}
use Rattle.sb_compare.specs.declared.decided.Decided.{Decided}

-- `rule L` or `no rule`
abbrev pub rule_words : Verdict → List ℕ
rule_words (verdict.Rule line action) = codes "rule " ++ decimal line
rule_words verdict.NoRule = codes "no rule"

-- the comment on a rule that decides no call
abbrev pub undecided_line : ℕ → List ℕ
undecided_line line = codes "# rule " ++ decimal line ++ codes " decides no call\n"

-- a rule that decides no call; nothing if no call is left to no rule
abbrev pub none_lines : Verdict → List ℕ
none_lines (verdict.Rule line action) = undecided_line line
none_lines verdict.NoRule = []

-- a comment, and a statement with a call that the verdict decides
abbrev pub statement_lines : CallTag → Verdict → List Arg → List ℕ
statement_lines tag verdict call = codes "# " ++ rule_words verdict ++ codes "\n" ++ call_text tag call ++ codes "\n"

-- a comment, if no call that the verdict decides can be sent
abbrev pub long_line : Verdict → List ℕ
long_line verdict = codes "# " ++ rule_words verdict ++ codes " decides only calls that are longer than a block\n"

-- one or the other, by a shortest call
abbrev pub call_lines : CallTag → Verdict → List Arg → List ℕ
call_lines tag verdict call = if is_sendable call then statement_lines tag verdict call else long_line verdict

abbrev pub told_lines : CallTag → Verdict → Option (List Arg) → List ℕ
told_lines tag verdict None = none_lines verdict
told_lines tag verdict (Some call) = call_lines tag verdict call

-- the lines of a verdict
abbrev pub decided_lines : Decided → List ℕ
decided_lines decided = told_lines decided.tag decided.verdict decided.call

-- the heading of a policy: a target of its name with one channel and one thread
abbrev pub target_lines : List ℕ → List ℕ
target_lines name = codes "target " ++ name ++ codes " " ++ name ++ codes " 1\nthread\n"

-- the lines of each policy, in order
abbrev pub policies_lines : List Policy → List (List Decided) → List ℕ
policies_lines [] lists = []
policies_lines (policy ∷ policies) [] = []
policies_lines (policy ∷ policies) (list ∷ lists) = target_lines policy.name ++ flat_map decided_lines list ++ policies_lines policies lists

-- each policy has its list
abbrev pub AreCovered : List Policy → List (List Decided) → Type 0
AreCovered [] lists = lists ≡ []
AreCovered (policy ∷ policies) [] = ⊥
AreCovered (policy ∷ policies) (list ∷ lists) = AreAllDecided policy every_tag list × AreCovered policies lists

-- the text: a script, with a target for each policy
abbrev pub cover_text : List Policy → List (List Decided) → List ℕ
cover_text policies lists = codes "sandbox-script 1\n" ++ policies_lines policies lists
