use Rattle.std.proofs.Common.{◌≡◌, ◌++◌, ◌-◌}
use Rattle.sb_gen.specs.Scripts.{directories_of, start_of}
use Rattle.sb_gen.proofs.scripts.start.Given as goal

-- the lines so far and those that are left are all
abbrev pub invariant-loop-target : goal.invariant-loop-target
invariant-loop-target l = l.start.items ++ directories_of l.target (l.count - l.target) ≡ start_of l.count
