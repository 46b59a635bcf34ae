-- The line of an entry.
use Rattle.std.specs.Prelude.{ℕ, List}
pub use Rattle.sb_statements.specs.Scripts.{name_by, target_name}
pub use Rattle.sb_transcript.specs.Fields.{argument_field, argument_text, fault_text, verdict_text}
use Rattle.sb_statements.specs.declared.scripts.Script.{Script}
use Rattle.sb_book.specs.declared.entries.Entry.{Entry}
use Rattle.sb_transcript.specs.Fields.{ended}
use Rattle.sb_transcript.specs.Printed.{shown_entry}
use Rattle.sb_transcript.specs.declared.read_lines.Line.TheVariants as line

-- the line of entry n
abbrev pub entry_line : Script → ℕ → Entry → List ℕ
entry_line script n e = ended (line.Entry (shown_entry script n e))
