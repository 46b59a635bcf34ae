use Rattle.sb_opcode.proofs.PackingLemmas.{packing_comes_back, packing_is_one_to_one}
use Rattle.sb_opcode.proofs.RecordLemmas.{records_come_back}
use Rattle.sb_opcode.proofs.laws.packing_comes_back.Goals as goal

pub returns-clause-packed : goal.returns-clause-packed
returns-clause-packed c = packing_comes_back

pub returns-clause-one_to_one : goal.returns-clause-one_to_one
returns-clause-one_to_one c = packing_is_one_to_one

pub returns-clause-records : goal.returns-clause-records
returns-clause-records c = records_come_back
