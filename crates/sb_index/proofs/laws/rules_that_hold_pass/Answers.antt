use Rattle.sb_index.proofs.PassLemmas.{rules_that_hold_pass}
use Rattle.sb_index.proofs.laws.rules_that_hold_pass.Goals as goal

pub returns : goal.returns
returns c = rules_that_hold_pass
