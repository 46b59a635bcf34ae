use Rattle.std.proofs.Common.{◌≡◌}
use Rattle.sb_run.proofs.groups.serve_with_each.Given as goal

abbrev pub invariant-loop-at : goal.invariant-loop-at
invariant-loop-at g l = l.servers.items ≡ l.fn.servers.items
