use Rattle.sb_scripttext.proofs.ScheduleSizes.{orders_short, written_short}
use Rattle.sb_scripttext.proofs.schedule_printing_laws.written_schedules_are_short.Goals as goal

pub returns-clause-schedules : goal.returns-clause-schedules
returns-clause-schedules c = written_short

pub returns-clause-orders : goal.returns-clause-orders
returns-clause-orders c = orders_short
