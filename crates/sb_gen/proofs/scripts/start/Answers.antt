use Rattle.std.proofs.Common.{ap}
use Rattle.sb_statements.specs.declared.scripts.StartLine.TheVariants.{Dir}
use Rattle.sb_gen.proofs.Steps.{directory_pushed}
use Rattle.sb_gen.proofs.scripts.start.Goals as goal

pub loop-target-preserved : goal.loop-target-preserved
loop-target-preserved c = directory_pushed c.loop-target.target c.args.count
    c.loop-target.start.items c.push-in-loop-target.new.self.items _ (Dir c.in_ok-directory.field-0)
    c.loop-target-test.true (ap Dir c.in_ok-directory.ensures)
    c.in_ok-push-2.ensures.items c.loop-target.invariant
