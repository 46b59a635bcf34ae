use Rattle.std.proofs.Common.{◌≡◌, ◌++◌, ◌-◌}
use Rattle.sb_gen.specs.Scripts.{targets_of}
use Rattle.sb_gen.proofs.scripts.targets.Given as goal

-- the targets so far and those that are left are all
abbrev pub invariant-loop-target : goal.invariant-loop-target
invariant-loop-target l = l.targets.items ++ targets_of l.target (l.count - l.target) l.calls l.generator ≡ targets_of 0 l.count l.calls l.fn.generator
