use Rattle.sb_handles.proofs.TableLaws.{held_on_one, one_is_left}
use Rattle.sb_handles.proofs.laws.handles_are_on_one_object.Goals as goal

pub returns-clause-held : goal.returns-clause-held
returns-clause-held c = held_on_one

pub returns-clause-left : goal.returns-clause-left
returns-clause-left c = one_is_left
