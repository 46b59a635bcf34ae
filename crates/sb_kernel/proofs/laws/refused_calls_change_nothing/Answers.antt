use Rattle.sb_kernel.proofs.Refusals.{refused_calls_change_nothing}
use Rattle.sb_kernel.proofs.laws.refused_calls_change_nothing.Goals as goal

-- src/laws.rt:11:1
pub returns : goal.returns
returns c = refused_calls_change_nothing
    c.refused_file_calls_change_nothing.ensures.create c.refused_file_calls_change_nothing.ensures.rename c.refused_pipe_calls_change_nothing.ensures
    c.refused_key_calls_change_nothing.ensures.creates c.refused_key_calls_change_nothing.ensures.opens
    c.refused_event_calls_change_nothing.ensures.creates c.refused_event_calls_change_nothing.ensures.opens
