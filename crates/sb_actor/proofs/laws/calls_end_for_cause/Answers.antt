use Rattle.sb_actor.proofs.Begins.{calls_begin}
use Rattle.sb_actor.proofs.CallCauses.{calls_end}
use Rattle.sb_actor.proofs.CallEnds.{causes_end_calls}
use Rattle.sb_actor.proofs.laws.calls_end_for_cause.Goals as goal

pub returns-clause-causes : goal.returns-clause-causes
returns-clause-causes c = calls_end

pub returns-clause-ends : goal.returns-clause-ends
returns-clause-ends c = causes_end_calls

pub returns-clause-begin : goal.returns-clause-begin
returns-clause-begin c = calls_begin c.sound_parts.ensures.targets
