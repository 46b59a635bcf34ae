use Rattle.std.proofs.Common.{◌≡◌, ◌++◌, length, true}
use Rattle.std.specs.List.{list_all}
use Rattle.sb_dup.specs.Chains.{answered, table_after}
use Rattle.sb_dup.specs.Lines.{is_between}
use Rattle.sb_dup.proofs.passing.Passing.apply_each.Given as goal

-- what the moves that are left make of the handles is what all moves make of them
abbrev pub invariant-loop-m : goal.invariant-loop-m
invariant-loop-m g l =
    let policies = g.J.Judge.policies l.judge in
    (l.self.space ≡ l.initial.self.space)
    × (list_all (is_between (length policies)) l.rest ≡ true)
    × (table_after l.self.space policies l.rest l.self.table ≡ table_after l.initial.self.space policies l.moves l.initial.self.table)
    × (l.answered ++ answered l.self.space policies l.rest l.self.table ≡ answered l.initial.self.space policies l.moves l.initial.self.table)

abbrev pub decreases-loop-m : goal.decreases-loop-m
decreases-loop-m g l = length l.rest
