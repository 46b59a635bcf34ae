use Rattle.sb_base.proofs.Quotes.{quotes_differ}
use Rattle.sb_base.proofs.laws.quotes_differ.Goals as goal

pub returns : goal.returns
returns c = quotes_differ
