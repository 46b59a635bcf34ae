use Rattle.sb_gen.proofs.Steps.{target_pushed}
use Rattle.sb_gen.proofs.scripts.targets.Goals as goal

pub loop-target-preserved : goal.loop-target-preserved
loop-target-preserved c = target_pushed c.loop-target.target c.args.count c.args.calls c.loop-target.generator c.target_of.new.generator
    c.loop-target.targets.items c.push.new.self.items _ c.in_ok-target_of.field-0
    c.loop-target-test.true c.in_ok-target_of.ensures.made c.in_ok-target_of.ensures.after
    c.in_ok-push.ensures.items c.loop-target.invariant
