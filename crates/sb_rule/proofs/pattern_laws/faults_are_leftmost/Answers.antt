use Rattle.sb_rule.proofs.Leftmost.{faults_are_leftmost, faultless_texts_are_read}
use Rattle.sb_rule.proofs.pattern_laws.faults_are_leftmost.Goals as goal

pub returns-clause-fault : goal.returns-clause-fault
returns-clause-fault c = faults_are_leftmost

pub returns-clause-none : goal.returns-clause-none
returns-clause-none c = faultless_texts_are_read
