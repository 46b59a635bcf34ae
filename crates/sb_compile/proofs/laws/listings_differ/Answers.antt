use Rattle.sb_compile.proofs.ListableCode.{different_code_is_listed_differently}
use Rattle.sb_compile.proofs.ToldCodes.{listings_differ}
use Rattle.sb_compile.proofs.laws.listings_differ.Goals as goal

pub returns-clause-codes : goal.returns-clause-codes
returns-clause-codes c = listings_differ c.quotes_differ.ensures

pub returns-clause-policies : goal.returns-clause-policies
returns-clause-policies c = different_code_is_listed_differently c.quotes_differ.ensures
