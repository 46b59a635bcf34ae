use Rattle.sb_compile.proofs.Candidates.{compiled_rules_are_few}
use Rattle.sb_compile.proofs.laws.compiled_rules_are_few.Goals as goal

pub returns : goal.returns
returns c = compiled_rules_are_few
