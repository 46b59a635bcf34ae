use Rattle.sb_core.proofs.Fitting.{runs_fit}
use Rattle.sb_core.proofs.rules.runs_fit.Goals as goal

pub returns : goal.returns
returns c =
    runs_fit c.rule_laws.ensures c.sound_parts.ensures.targets c.sound_parts.ensures.statements c.answers_keep_histories.ensures c.drains_settle.ensures
    c.replies_come_back.ensures c.answers_are_short.ensures
