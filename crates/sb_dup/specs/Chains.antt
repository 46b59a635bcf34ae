-- Moves, one after another.
use Rattle.std.specs.Prelude.{List, [], ◌∷◌}
use Rattle.sb_dup.specs.Passes.{pass}
use Rattle.sb_dup.specs.declared.moves.Move.{Move}
use Rattle.sb_dup.specs.declared.moves.MoveAnswer.{MoveAnswer}
use Rattle.sb_handles.specs.Tables.{Table}
use Rattle.sb_kernel.specs.Namespaces.{Space}
use Rattle.sb_rule.specs.declared.policies.Policy.{Policy}

-- each move with its answer, from these handles
abbrev pub answered : Space → List Policy → List Move → Table → List (Move × MoveAnswer)
answered ns policies [] table = []
answered ns policies (m ∷ ms) table = (m, (pass ns policies m table).answer) ∷ answered ns policies ms (pass ns policies m table).table

-- the handles after them
abbrev pub table_after : Space → List Policy → List Move → Table → Table
table_after ns policies [] table = table
table_after ns policies (m ∷ ms) table = table_after ns policies ms (pass ns policies m table).table
