use Rattle.std.proofs.Common.{◌≡◌, ◌++◌, true, length}
use Rattle.sb_names.specs.Keys.{key_of}
use Rattle.sb_names.specs.Nodes.{IsAt, is_path, name_of, number_of}
use Rattle.sb_names.proofs.trees.NameTree.directory.Given as goal

-- the directory so far is the one to which the part of the path that was read leads
abbrev pub invariant-loop-later : goal.invariant-loop-later
invariant-loop-later l =
    (key_of l.path ≡ name_of l.self.nodes (number_of l.here) ++ key_of l.rest)
    × IsAt l.self.nodes (number_of l.here) (name_of l.self.nodes (number_of l.here)) × (is_path l.rest ≡ true)

abbrev pub decreases-loop-later : goal.decreases-loop-later
decreases-loop-later l = length l.rest
