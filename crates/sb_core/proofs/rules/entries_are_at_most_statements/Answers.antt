use Rattle.sb_core.proofs.EntryCounts.{runs_have_few_entries, statements_are_few, worlds_have_few_entries}
use Rattle.sb_core.proofs.rules.entries_are_at_most_statements.Goals as goal

pub returns-clause-worlds : goal.returns-clause-worlds
returns-clause-worlds c = worlds_have_few_entries c.sound_parts.ensures.targets c.sound_parts.ensures.statements c.answers_keep_histories.ensures

pub returns-clause-runs : goal.returns-clause-runs
returns-clause-runs c = runs_have_few_entries c.sound_parts.ensures.targets c.sound_parts.ensures.statements c.answers_keep_histories.ensures

pub returns-clause-most : goal.returns-clause-most
returns-clause-most c = statements_are_few
