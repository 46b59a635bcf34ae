use Rattle.sb_names.proofs.NumberLaws.{renames_keep_numbers}
use Rattle.sb_names.proofs.laws.renames_keep_numbers.Goals as goal

pub returns : goal.returns
returns c = renames_keep_numbers
