use Rattle.std.proofs.Common.{◌≡◌, drop}
use Rattle.sb_host.specs.HostWorkers.{after_values}
use Rattle.sb_host.proofs.host_workers.HostWorker.loaded.Given as goal

-- what is left of the values leads to the same
abbrev pub invariant-loop-value : goal.invariant-loop-value
invariant-loop-value l = after_values l.self (drop l.value-index l.values) ≡ after_values l.initial.self l.values
