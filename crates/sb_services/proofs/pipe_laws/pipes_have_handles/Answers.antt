use Rattle.sb_services.proofs.PipeLaws.{pipes_have_handles}
use Rattle.sb_services.proofs.pipe_laws.pipes_have_handles.Goals as goal

-- src/laws.rt:13:1
pub returns : goal.returns
returns c = pipes_have_handles
