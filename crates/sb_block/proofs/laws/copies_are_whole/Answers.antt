use Rattle.sb_block.proofs.FaultLemmas.{faultless_copies_are_whole, fetched_numbers_are_copied, later_faults_are_of_whole_copies}
use Rattle.sb_block.proofs.laws.copies_are_whole.Goals as goal

pub returns : goal.returns
returns c = record {
  fetched = fetched_numbers_are_copied;
  faultless = faultless_copies_are_whole;
  later = later_faults_are_of_whole_copies;
}
