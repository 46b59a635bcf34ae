use Rattle.sb_core.proofs.OwnReplies.{replies_are_own, runs_reply_own}
use Rattle.sb_core.proofs.rules.replies_are_own.Goals as goal

pub returns-clause-steps : goal.returns-clause-steps
returns-clause-steps c =
    replies_are_own c.rule_laws.ensures c.sound_parts.ensures.targets c.sound_parts.ensures.statements c.answers_keep_histories.ensures
    c.replies_come_back.ensures c.answers_are_short.ensures

pub returns-clause-runs : goal.returns-clause-runs
returns-clause-runs c =
    runs_reply_own c.rule_laws.ensures c.sound_parts.ensures.targets c.sound_parts.ensures.statements c.answers_keep_histories.ensures
    c.replies_come_back.ensures c.answers_are_short.ensures
