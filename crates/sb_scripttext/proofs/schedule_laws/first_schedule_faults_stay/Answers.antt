use Rattle.sb_scripttext.proofs.ScheduleTexts.{first_schedule_faults_stay}
use Rattle.sb_scripttext.proofs.schedule_laws.first_schedule_faults_stay.Goals as goal

pub returns : goal.returns
returns c = first_schedule_faults_stay c.first_faults_stay.ensures
