use Rattle.sb_link.proofs.Performed.{performed_calls_are_resolved}
use Rattle.sb_link.proofs.laws.performed_calls_are_resolved.Goals as goal

pub returns : goal.returns
returns c = performed_calls_are_resolved c.entries_say_what_was_done.ensures
