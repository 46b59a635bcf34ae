use Rattle.sb_cover.proofs.LengthLemmas.{sendable_calls_encode}
use Rattle.sb_cover.proofs.laws.sendable_calls_encode.Goals as goal

pub returns : goal.returns
returns c = sendable_calls_encode
