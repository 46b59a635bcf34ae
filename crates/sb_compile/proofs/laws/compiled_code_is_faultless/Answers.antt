use Rattle.sb_compile.proofs.Faultless.{compiled_code_is_faultless}
use Rattle.sb_compile.proofs.laws.compiled_code_is_faultless.Goals as goal

pub returns : goal.returns
returns c = compiled_code_is_faultless c.tags_and_numbers.ensures.tags
