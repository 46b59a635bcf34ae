use Rattle.std.proofs.Common.{◌∙◌, ap}
use Rattle.sb_gen.specs.Calls.{statement_of}
use Rattle.sb_gen.proofs.Steps.{statement_pushed, after_stepped}
use Rattle.sb_gen.proofs.scripts.statements.Goals as goal

pub loop-left-preserved : goal.loop-left-preserved
loop-left-preserved c = record {
  made = statement_pushed c.args.target c.loop-left.left c.loop-left.generator c.advance.new.self
      c.loop-left.statements.items c.push.new.self.items _ c.in_ok-statement.field-0
      c.loop-left-test.true (c.in_ok-statement.ensures ∙ ap (statement_of c.args.target) c.advance.ensures) c.advance.ensures
      c.in_ok-push.ensures.items c.loop-left.invariant.made;
  after = after_stepped c.loop-left.left c.loop-left.generator c.advance.new.self _
      c.loop-left-test.true c.advance.ensures c.loop-left.invariant.after;
}
