use Rattle.sb_scripttext.proofs.Renumbered.{skipped_lines_count_alone}
use Rattle.sb_scripttext.proofs.laws.skipped_lines_count_alone.Goals as goal

pub returns : goal.returns
returns c = skipped_lines_count_alone c.lines_append.ensures c.written_lines_are_read.ensures c.skipped_lines_count_alone.ensures
