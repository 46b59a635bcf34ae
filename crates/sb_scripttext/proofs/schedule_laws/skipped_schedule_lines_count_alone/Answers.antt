use Rattle.sb_scripttext.proofs.ScheduleTexts.{skipped_schedule_lines_count_alone}
use Rattle.sb_scripttext.proofs.schedule_laws.skipped_schedule_lines_count_alone.Goals as goal

pub returns : goal.returns
returns c = skipped_schedule_lines_count_alone c.skipped_lines_count_alone.ensures
