use Rattle.std.specs.List.{flat_map, list_all}
use Rattle.std.proofs.Common.{◌≡◌, ◌+◌, ◌*◌, ◌≤◌, ◌++◌, true, length}
use Rattle.sb_rule.specs.WellMade.{is_sensible}
use Rattle.sb_compile.specs.Compiling.{cond_code}
use Rattle.sb_compile.proofs.rules.push_conds.Given as goal

abbrev pub invariant-loop-cond : goal.invariant-loop-cond
invariant-loop-cond l =
    (l.code ++ flat_map cond_code l.rest ≡ l.fn.code ++ flat_map cond_code l.conds)
    × (length l.code + 257 * length l.rest ≤ length l.fn.code + 257 * length l.conds)
    × (list_all (λ c. is_sensible c.test) l.rest ≡ true)

abbrev pub decreases-loop-cond : goal.decreases-loop-cond
decreases-loop-cond l = length l.rest
