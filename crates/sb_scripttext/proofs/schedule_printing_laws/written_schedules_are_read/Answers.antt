use Rattle.sb_scripttext.proofs.ScheduleBounds.{actors_make_steps}
use Rattle.sb_scripttext.proofs.PrintedSchedules.{orders_read, read_again, written_read}
use Rattle.sb_scripttext.proofs.schedule_printing_laws.written_schedules_are_read.Goals as goal

pub returns-clause-schedules : goal.returns-clause-schedules
returns-clause-schedules c =
    written_read (record {
      lines = c.plain_lines_are_read.ensures.lines;
      words = c.plain_lines_are_read.ensures.words;
      numbers = c.decimals_are_read.ensures;
    })

pub returns-clause-orders : goal.returns-clause-orders
returns-clause-orders c =
    orders_read (record {
      lines = c.plain_lines_are_read.ensures.lines;
      words = c.plain_lines_are_read.ensures.words;
      numbers = c.decimals_are_read.ensures;
    })

pub returns-clause-made : goal.returns-clause-made
returns-clause-made c = actors_make_steps

pub returns-clause-again : goal.returns-clause-again
returns-clause-again c =
    read_again (record {
      lines = c.plain_lines_are_read.ensures.lines;
      words = c.plain_lines_are_read.ensures.words;
      numbers = c.decimals_are_read.ensures;
    })
