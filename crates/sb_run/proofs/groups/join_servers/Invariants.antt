use Rattle.std.proofs.Common.{map}
use Rattle.std.specs.List.{AllZip}
use Rattle.sb_run.specs.Servers.{IsSameServer}
use Rattle.sb_run.proofs.groups.join_servers.Given as goal

abbrev pub invariant-loop-server : goal.invariant-loop-server
invariant-loop-server g l = AllZip IsSameServer (map (λ s. s.first) l.yielded) l.back.items
