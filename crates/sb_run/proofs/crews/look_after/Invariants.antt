use Rattle.std.proofs.Common.{◌≡◌, map}
use Rattle.sb_shared.specs.Closing.{IsKeeper}
use Rattle.sb_run.proofs.crews.look_after.Given as goal

abbrev pub invariant-loop : goal.invariant-loop
invariant-loop g l = (map (λ s. s.first) l.threads.items ≡ map (λ s. s.first) l.fn.threads.items) × (map (λ s. s.first) l.servers.items ≡ map (λ s. s.first) l.fn.servers.items)
    × IsKeeper l.context.world l.watch
