use Rattle.sb_actor.proofs.MarkLemmas.{marks_come_back, read_marks_are_marks}
use Rattle.sb_actor.proofs.marks.marks_come_back.Goals as goal

pub returns : goal.returns
returns c = record { back = marks_come_back; read = read_marks_are_marks }
