use Rattle.std.proofs.Common.{rules}
use Rattle.sb_actor.proofs.threads.ThreadState.go_on.Goals as goal

pub returns-in-Try-clause-next : goal.returns-in-Try-clause-next
returns-in-Try-clause-next g c =
    let step = c.after_try.ensures c.args.script.now in
    search (rules, step)
