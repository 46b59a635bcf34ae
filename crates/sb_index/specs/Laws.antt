-- A rule that holds passes each question that the arguments meet.
use Rattle.std.specs.Prelude.{◌≡◌, true, List}
use Rattle.sb_call.specs.declared.arguments.Arg.{Arg}
use Rattle.sb_call.specs.declared.tags.CallTag.{CallTag}
use Rattle.sb_rule.specs.Verdicts.{rule_holds}
use Rattle.sb_rule.specs.declared.policies.Rule.{Rule}
use Rattle.sb_index.specs.Questions.{may_pass, meets}
use Rattle.sb_index.specs.declared.questions.Question.{Question}

-- a rule that holds passes each question that the arguments meet
abbrev pub RulesThatHoldPass : Type 0
RulesThatHoldPass = (question : Question) (rule : Rule) (tag : CallTag) (args : List Arg)
    → rule_holds rule tag args ≡ true → meets question args ≡ true → may_pass question rule ≡ true
