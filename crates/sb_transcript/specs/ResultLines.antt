-- The line of a statement's result.
use Rattle.std.specs.Prelude.{ℕ, List}
use Rattle.sb_statements.specs.declared.results.StmtResult.{StmtResult}
use Rattle.sb_statements.specs.declared.scripts.Script.{Script}
use Rattle.sb_transcript.specs.Fields.{ended}
use Rattle.sb_transcript.specs.Printed.{shown_result_line}
use Rattle.sb_transcript.specs.declared.read_lines.Line.TheVariants as line

-- the line of the result of the statement at a place of a thread of a target
abbrev pub result_line : Script → ℕ → ℕ → ℕ → StmtResult → List ℕ
result_line script target thread place result = ended (line.Result (shown_result_line script target thread place result))
