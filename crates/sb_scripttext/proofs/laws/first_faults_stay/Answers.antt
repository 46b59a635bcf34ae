use Rattle.sb_scripttext.proofs.Prefixes.{first_faults_stay}
use Rattle.sb_scripttext.proofs.laws.first_faults_stay.Goals as goal

pub returns : goal.returns
returns c = first_faults_stay c.first_faults_stay.ensures
