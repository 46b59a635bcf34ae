use Rattle.sb_audit.proofs.YesLemmas.{yes_is_of_lines}
use Rattle.sb_audit.proofs.answer_laws.yes_is_of_lines.Goals as goal

pub returns : goal.returns
returns c = yes_is_of_lines c.read_lines_are_written.ensures
