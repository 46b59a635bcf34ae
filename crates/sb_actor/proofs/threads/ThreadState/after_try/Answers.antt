use Rattle.std.proofs.Common.{◌∙◌, ap, length, refl}
use Rattle.sb_actor.specs.ThreadStages.{ThreadAt}
use Rattle.sb_actor.proofs.Tries.{last_try}
use Rattle.sb_actor.proofs.threads.ThreadState.after_try.Goals as goal

pub returns-then-channel-len : goal.returns-then-channel-len
returns-then-channel-len c script =
    last_try script c.args.self.now c.after_round.new.self c.args.channel c.len.result c.args.rounds c.args.found c.args.all_abandoned _ c.after_round.result
    c.if-found-eq-FREE.false c.if-channel-len.true (c.len.ensures.value ∙ ap (λ (z : ThreadAt). length z.clean) c.self.view_is) refl (c.after_round.ensures script)
