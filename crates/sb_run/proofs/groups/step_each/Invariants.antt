use Rattle.std.proofs.Common.{◌≡◌, false, map, take, All}
use Rattle.sb_run.specs.Started.{IsDone}
use Rattle.sb_run.proofs.groups.step_each.Given as goal

abbrev pub invariant-loop-at : goal.invariant-loop-at
invariant-loop-at l = (map (λ s. s.first) l.threads.items ≡ map (λ s. s.first) l.fn.threads.items) × (l.busy ≡ false → All IsDone (take l.at l.threads.items))
