use Rattle.sb_core.proofs.Ruling.{rule_holds, runs_keep_rule}
use Rattle.sb_core.proofs.rules.rule_holds.Goals as goal

pub returns-clause-steps : goal.returns-clause-steps
returns-clause-steps c =
    rule_holds c.rule_laws.ensures c.sound_parts.ensures.targets c.sound_parts.ensures.statements

pub returns-clause-runs : goal.returns-clause-runs
returns-clause-runs c =
    runs_keep_rule c.rule_laws.ensures c.sound_parts.ensures.targets c.sound_parts.ensures.statements
