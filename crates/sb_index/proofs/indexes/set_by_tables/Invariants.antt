use Rattle.std.proofs.Common.{◌≤◌, List, length}
use Rattle.sb_call.specs.declared.tags.CallTag.{CallTag}
use Rattle.sb_rule.specs.declared.policies.Rule.{Rule}
use Rattle.sb_index.specs.Tables.{AreTables, HasAllThatHold}
use Rattle.sb_index.proofs.TableLemmas.{PassUpTo}
use Rattle.sb_index.proofs.indexes.set_by_tables.Given as goal

abbrev pub invariant-loop-table : goal.invariant-loop-table
invariant-loop-table l =
    ((rules : List Rule) (tag : CallTag) → length rules ≤ 256 → AreTables rules tag l.tables → HasAllThatHold rules tag l.args l.set)
    × ((rules : List Rule) (tag : CallTag) → AreTables rules tag l.tables → PassUpTo rules tag l.tables l.table-index l.args l.set)
