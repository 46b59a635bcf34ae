use Rattle.sb_local.proofs.LeftOut as left
use Rattle.sb_local.proofs.laws.left_out_calls_are_denied.Goals as goal

pub returns-clause-whole : goal.returns-clause-whole
returns-clause-whole c = left.whole_blocks_are_denied c.runs_are_legal.ensures c.denials_are_decisions.ensures

pub returns-clause-clean : goal.returns-clause-clean
returns-clause-clean c = left.clean_calls_are_denied c.runs_fit.ensures c.denials_are_decisions.ensures
