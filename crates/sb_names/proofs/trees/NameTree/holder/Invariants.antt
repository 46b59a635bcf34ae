use Rattle.std.proofs.Common.{◌≡◌}
use Rattle.std.specs.List.{find}
use Rattle.sb_arena.specs.Forests.{value_at}
use Rattle.sb_names.specs.Objects.{has_object}
use Rattle.sb_names.proofs.trees.NameTree.holder.Given as goal

abbrev pub invariant-loop-node : goal.invariant-loop-node
invariant-loop-node l =
    find (λ row. has_object (value_at l.self.nodes row.0.1) l.number) l.node-iterator
    ≡ find (λ row. has_object (value_at l.self.nodes row.0.1) l.number) l.initial.node-iterator
