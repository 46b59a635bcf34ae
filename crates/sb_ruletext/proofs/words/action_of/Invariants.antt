use Rattle.std.proofs.Common.{◌≡◌, drop}
use Rattle.sb_rule.specs.Actions.{action_word}
use Rattle.sb_call.specs.CallWords.{named}
use Rattle.sb_ruletext.specs.Words.{actions_of, action_of}
use Rattle.sb_ruletext.proofs.words.action_of.Given as goal

-- the action is one of those that are left
abbrev pub invariant-loop-action : goal.invariant-loop-action
invariant-loop-action l = named action_word (drop l.action-index (actions_of l.version)) l.word ≡ action_of l.version l.word
