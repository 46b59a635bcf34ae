use Rattle.std.proofs.Common.{[]}
use Rattle.std.specs.Prelude.{slice_index_or}
use Rattle.sb_opcode.specs.Groups.{rules_of}
use Rattle.sb_opcode.proofs.RuleLemmas.{not_held}
use Rattle.sb_opcode.proofs.rules.RuleCodes.judge_rule.Goals as goal

pub returns-in-NoRule : goal.returns-in-NoRule
returns-in-NoRule c =
    not_held c.args.args.now (slice_index_or (rules_of c.args.self.now.code) c.args.number []) c.rule_says.ensures.whole c.in-NoRule.ensures.says
