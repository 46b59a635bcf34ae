use Rattle.std.proofs.Common.{◌∙◌, slice_get}
use Rattle.sb_statements.specs.Soundness.{channels_of}
use Rattle.sb_shared.proofs.Ranges.{range_more}
use Rattle.sb_shared.proofs.rooms.word_rooms.Goals as goal

pub loop-target-preserved : goal.loop-target-preserved
loop-target-preserved c =
    range_more (λ t. channels_of (slice_get c.args.script.now.targets t)) c.loop-target.target c.loop-target.rooms.items c.push.new.self.items c.in_ok-new.field-0
    c.loop-target.invariant (c.in_ok-new.ensures ∙ c.channel_count.ensures.count) c.in_ok-push.ensures.items
