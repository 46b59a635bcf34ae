use Rattle.std.proofs.Common.{◌≡◌, ◌++◌, length, reverse}
use Rattle.std.specs.Prelude.{Some}
use Rattle.sb_names.specs.Nodes.{IsThere, name_of, number_of}
use Rattle.sb_names.proofs.trees.NameTree.name_at.Given as goal

-- what is left of the name is that of the directory here
abbrev pub invariant-loop-here : goal.invariant-loop-here
invariant-loop-here l =
    IsThere l.self.nodes (number_of l.here)
    × (name_of l.self.nodes (Some l.fn.node.0) ≡ name_of l.self.nodes (number_of l.here) ++ reverse l.units.items)

abbrev pub decreases-loop-here : goal.decreases-loop-here
decreases-loop-here l = length (name_of l.self.nodes (number_of l.here))
