use Rattle.sb_kernel.proofs.Performing.{requests_are_kept}
use Rattle.sb_kernel.proofs.services.requests_are_kept.Goals as goal

pub returns : goal.returns
returns c = requests_are_kept
    c.file_agreement_is_kept.ensures.other_grants c.pipe_agreement_is_kept.ensures.other_grants
    c.files_are_granted.ensures.grants c.files_are_granted.ensures.refused c.files_are_granted.ensures.stay c.file_agreement_is_kept.ensures.creates
    c.files_are_renamed.ensures.moved c.files_are_renamed.ensures.refused c.files_are_renamed.ensures.objects
    c.pipes_are_granted.ensures.grants c.pipes_are_granted.ensures.refused c.pipes_are_granted.ensures.counts c.pipe_agreement_is_kept.ensures.calls
    c.keys_are_granted.ensures.creates c.keys_are_granted.ensures.refused_creates c.keys_are_granted.ensures.stay
    c.keys_are_granted.ensures.opens c.keys_are_granted.ensures.refused_opens c.keys_are_granted.ensures.leave
    c.events_are_granted.ensures.creates c.events_are_granted.ensures.refused_creates c.events_are_granted.ensures.stay
    c.events_are_granted.ensures.opens c.events_are_granted.ensures.refused_opens c.events_are_granted.ensures.leave
    c.file_agreement_is_kept.ensures.closes c.file_agreement_is_kept.ensures.other_closes c.pipe_agreement_is_kept.ensures.closes c.pipe_agreement_is_kept.ensures.other_closes
