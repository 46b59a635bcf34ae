use Rattle.std.proofs.Common.{◌≡◌}
use Rattle.std.specs.List.{find}
use Rattle.sb_names.specs.Keys.{key_of}
use Rattle.sb_names.specs.Nodes.{is_child, number_of}
use Rattle.sb_names.proofs.trees.NameTree.child.Given as goal

abbrev pub invariant-loop-number : goal.invariant-loop-number
invariant-loop-number l =
    find (λ row. is_child l.self.nodes (number_of l.directory) (key_of l.part) row.0.1) l.number-iterator
    ≡ find (λ row. is_child l.self.nodes (number_of l.directory) (key_of l.part) row.0.1) l.initial.number-iterator
