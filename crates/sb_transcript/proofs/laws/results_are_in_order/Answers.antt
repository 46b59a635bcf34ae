use Rattle.sb_transcript.proofs.PlaceLaws.{results_are_in_order}
use Rattle.sb_transcript.proofs.laws.results_are_in_order.Goals as goal

pub returns : goal.returns
returns c = results_are_in_order
