use Rattle.std.proofs.Common.{◌≡◌}
use Rattle.sb_host.specs.HostWorkers.{after_dones}
use Rattle.sb_host.proofs.host_workers.HostWorker.stored.Given as goal

-- the stores that are left lead to the same
abbrev pub invariant-loop-left : goal.invariant-loop-left
invariant-loop-left l = after_dones l.self l.left ≡ after_dones l.initial.self l.count

abbrev pub decreases-loop-left : goal.decreases-loop-left
decreases-loop-left l = l.left
