use Rattle.sb_explain.proofs.Capping.{listings_are_capped}
use Rattle.sb_explain.proofs.laws.listings_are_capped.Goals as goal

pub returns : goal.returns
returns c = listings_are_capped
