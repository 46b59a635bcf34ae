use Rattle.sb_core.proofs.RunLaws.{finished_runs_are_whole, runs_have_results, runs_keep_words}
use Rattle.sb_core.proofs.Settling.{drains_settle}
use Rattle.sb_core.proofs.laws.runs_are_whole.Goals as goal

pub returns-clause-results : goal.returns-clause-results
returns-clause-results c =
    runs_have_results c.sound_parts.ensures.targets c.sound_parts.ensures.statements c.answers_keep_histories.ensures

pub returns-clause-finished : goal.returns-clause-finished
returns-clause-finished c =
    finished_runs_are_whole c.sound_parts.ensures.targets c.sound_parts.ensures.statements c.answers_keep_histories.ensures drains_settle

pub returns-clause-words : goal.returns-clause-words
returns-clause-words c =
    runs_keep_words c.sound_parts.ensures.targets c.sound_parts.ensures.statements c.answers_keep_histories.ensures
