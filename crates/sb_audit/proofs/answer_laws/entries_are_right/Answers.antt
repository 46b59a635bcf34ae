use Rattle.sb_audit.proofs.YesLemmas.{entries_are_right}
use Rattle.sb_audit.proofs.answer_laws.entries_are_right.Goals as goal

pub returns : goal.returns
returns c = entries_are_right
