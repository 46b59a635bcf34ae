use Rattle.sb_actor.proofs.Begins.{waits_begin}
use Rattle.sb_actor.proofs.WaitCauses.{waits_end, causes_end_waits}
use Rattle.sb_actor.proofs.laws.waits_end_for_cause.Goals as goal

pub returns-clause-causes : goal.returns-clause-causes
returns-clause-causes c = waits_end

pub returns-clause-ends : goal.returns-clause-ends
returns-clause-ends c = causes_end_waits

pub returns-clause-begin : goal.returns-clause-begin
returns-clause-begin c = waits_begin c.sound_parts.ensures.statements
