use Rattle.std.specs.List.{prefix_len}
use Rattle.std.proofs.Common.{◌≡◌, ◌+◌, ◌-◌, ◌≤◌, length, drop}
use Rattle.sb_compile.specs.Compiling.{is_one}
use Rattle.sb_compile.proofs.patterns.questions.Given as goal

abbrev pub invariant-loop-count : goal.invariant-loop-count
invariant-loop-count l = (l.count + prefix_len is_one (drop l.count l.cells) ≡ prefix_len is_one l.cells) × (l.count ≤ length l.cells)

abbrev pub decreases-loop-count : goal.decreases-loop-count
decreases-loop-count l = length l.cells - l.count
