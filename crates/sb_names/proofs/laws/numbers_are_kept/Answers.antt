use Rattle.sb_names.proofs.NumberLaws.{outs_keep_numbers, puts_keep_numbers}
use Rattle.sb_names.proofs.laws.numbers_are_kept.Goals as goal

pub returns-clause-puts : goal.returns-clause-puts
returns-clause-puts g c = puts_keep_numbers _

pub returns-clause-outs : goal.returns-clause-outs
returns-clause-outs g c = outs_keep_numbers _
