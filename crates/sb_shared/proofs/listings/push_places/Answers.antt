use Rattle.std.proofs.Common.{refl}
use Rattle.sb_shared.proofs.Ranges.{range_more_after}
use Rattle.sb_shared.proofs.listings.push_places.Goals as goal

pub loop-thread-preserved : goal.loop-thread-preserved
loop-thread-preserved c =
    range_more_after (λ k. (c.args.target, k)) c.loop-thread.thread c.args.places.now.items c.loop-thread.places.items c.push.new.self.items (c.args.target, c.loop-thread.thread)
    c.loop-thread.invariant refl c.in_ok-push.ensures.items
