use Rattle.std.proofs.Common.{rules}
use Rattle.sb_audit.proofs.Policies.{policy_read, policy_there}
use Rattle.sb_audit.proofs.contexts.Context.policy_of.Goals as goal

pub bounds-deref-number : goal.bounds-deref-number
bounds-deref-number c =
    let context = c.args.self.now in
    policy_there context.policies c.deref-3.result.now context.script c.deref-2.result.now c.args.target c.index-deref-target.result (search rules) (search rules)
    (search rules) c.requires.there

pub returns : goal.returns
returns c =
    let context = c.args.self.now in
    policy_read context.policies c.deref-3.result.now context.script c.deref-2.result.now c.args.target c.index-deref-target.result c.index-deref-number.result
    (search rules) (search rules) (search rules) c.requires.there c.index-deref-number.is
