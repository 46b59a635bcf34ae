use Rattle.sb_transcript.proofs.PlaceLaws.{numbers_are_results}
use Rattle.sb_transcript.proofs.laws.numbers_are_results.Goals as goal

pub returns : goal.returns
returns c = numbers_are_results
