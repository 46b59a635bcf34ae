use Rattle.sb_link.proofs.Answering as answering
use Rattle.sb_link.proofs.laws.script_calls_are_resolved.Goals as goal

pub returns-clause-histories : goal.returns-clause-histories
returns-clause-histories c =
    answering.script_answers_are_histories c.placed_statements_are_sound.ensures c.answers_keep_histories.ensures c.blocks_come_back.ensures

pub returns-clause-performed : goal.returns-clause-performed
returns-clause-performed c =
    answering.script_calls_are_resolved c.placed_statements_are_sound.ensures c.answers_keep_histories.ensures c.blocks_come_back.ensures
    c.entries_say_what_was_done.ensures
