use Rattle.sb_cover.proofs.LengthLemmas.{shortest_is_sendable}
use Rattle.sb_cover.proofs.laws.shortest_is_sendable.Goals as goal

pub returns : goal.returns
returns c = shortest_is_sendable
