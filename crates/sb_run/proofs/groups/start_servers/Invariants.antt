use Rattle.std.proofs.Common.{◌≡◌, All, map}
use Rattle.std.specs.Vec.Iter.{into_iter_items}
use Rattle.sb_run.specs.Servers.{IsServer}
use Rattle.sb_run.proofs.groups.start_servers.Given as goal

abbrev pub invariant-loop-server : goal.invariant-loop-server
invariant-loop-server g l = (map (λ s. s.first) l.started.items ≡ l.yielded) × All (IsServer l.context) (into_iter_items l.server-iterator)
