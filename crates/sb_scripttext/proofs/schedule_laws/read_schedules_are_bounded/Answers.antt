use Rattle.sb_scripttext.proofs.ScheduleBounds.{actors_are_there, steps_are_counted, rounds_are_counted}
use Rattle.sb_scripttext.proofs.schedule_laws.read_schedules_are_bounded.Goals as goal

pub returns : goal.returns
returns c = record { there = actors_are_there; steps = steps_are_counted; rounds = rounds_are_counted }
