use Rattle.std.specs.List.{list_all}
use Rattle.std.proofs.Common.{◌≡◌, ◌+◌, ◌*◌, ◌≤◌, ◌++◌, true, length}
use Rattle.sb_rule.specs.WellMade.{is_well_made_rule}
use Rattle.sb_compile.specs.Compiling.{code_of}
use Rattle.sb_compile.proofs.rules.code_of.Given as goal

abbrev pub invariant-loop-rule : goal.invariant-loop-rule
invariant-loop-rule l =
    (l.code ++ code_of l.rest l.tag ≡ code_of l.policy.rules l.tag)
    × (length l.code + 2057 * length l.rest ≤ 2057 * length l.policy.rules)
    × (list_all is_well_made_rule l.rest ≡ true)

abbrev pub decreases-loop-rule : goal.decreases-loop-rule
decreases-loop-rule l = length l.rest
