use Rattle.sb_text.proofs.ColumnLaws.{columns_within}
use Rattle.sb_text.proofs.laws.columns_are_within.Goals as goal

pub returns : goal.returns
returns c = columns_within
