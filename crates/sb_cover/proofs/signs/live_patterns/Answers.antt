use Rattle.std.proofs.Common.{ℕ}
use Rattle.sb_cover.proofs.SignLemmas.{live_one}
use Rattle.sb_cover.proofs.signs.live_patterns.Goals as goal

pub loop-position-preserved : goal.loop-position-preserved
loop-position-preserved c = λ patterns n later.
    live_one patterns c.args.positions.now c.loop-position.position-index c.loop-position.live.items c.need.new.needed.items n later c.loop-position-test.true c.need.ensures.stay c.need.ensures.here
    (c.loop-position.invariant patterns n later)
