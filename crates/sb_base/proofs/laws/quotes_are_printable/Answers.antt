use Rattle.sb_base.proofs.Printable.{quotes_are_printable}
use Rattle.sb_base.proofs.laws.quotes_are_printable.Goals as goal

pub returns : goal.returns
returns c = quotes_are_printable
