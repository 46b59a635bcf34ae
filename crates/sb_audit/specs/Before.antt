-- What the lines before a line show: how many there are of each kind, the entries, and the namespace that the performed calls led to.
use Rattle.std.specs.Prelude.{ℕ, Bool, true, false, nat_eq, List, [], ◌∷◌, length, count_by, Option, None, Some}
use Rattle.std.specs.List.{list_any, position}
use Rattle.std.specs.Cmp.Lexicographic.{pointwise}
use Rattle.sb_call.specs.declared.arguments.Arg.{Arg}
use Rattle.sb_call.specs.declared.tags.CallTag.{CallTag}
use Rattle.sb_kernel.specs.Namespaces.{Space, perform}
use Rattle.sb_kernel.specs.Openings.{opening}
use Rattle.sb_statements.specs.declared.scripts.Script.{Script}
use Rattle.sb_transcript.specs.declared.read_lines.EntryLine.{EntryLine}
use Rattle.sb_transcript.specs.declared.read_lines.Line.{Line}
use Rattle.sb_transcript.specs.declared.read_lines.Line.TheVariants as line
use Rattle.sb_transcript.specs.declared.read_lines.ShownDecision.{ShownDecision}
use Rattle.sb_transcript.specs.declared.read_lines.ShownDecision.TheVariants.{Refused, NoRule, Denied, Alarmed, Faked, Allowed, ReadOnly}

-- the entries among lines
abbrev pub entries_of : List Line → List EntryLine
entries_of [] = []
entries_of (line.Entry e ∷ lines) = e ∷ entries_of lines
entries_of (line.Result r ∷ lines) = entries_of lines
entries_of (line.Totals t ∷ lines) = entries_of lines

abbrev pub is_result : Line → Bool
is_result (line.Entry e) = false
is_result (line.Result r) = true
is_result (line.Totals t) = false

abbrev pub is_totals : Line → Bool
is_totals (line.Entry e) = false
is_totals (line.Result r) = false
is_totals (line.Totals t) = true

abbrev pub entry_count : List Line → ℕ
entry_count lines = length (entries_of lines)

abbrev pub result_count : List Line → ℕ
result_count lines = count_by is_result lines

abbrev pub has_totals : List Line → Bool
has_totals lines = list_any is_totals lines

-- the number of the target with this name, if there is one
abbrev pub target_of : Script → List ℕ → Option ℕ
target_of script name = position (λ target. pointwise nat_eq target.name name) script.targets

-- the call and the arguments that a decision shows as performed
pub record Shown : Type 0 where
  pub tag : CallTag
  pub args : List Arg

abbrev pub performed_of : ShownDecision → Option Shown
performed_of (Allowed tag args n) = Some (record { tag = tag; args = args })
performed_of (ReadOnly tag args n) = Some (record { tag = tag; args = args })
performed_of (Refused fault) = None
performed_of (NoRule tag) = None
performed_of (Denied tag n) = None
performed_of (Alarmed tag n) = None
performed_of (Faked tag n) = None

-- the namespace after a call that was performed for a target
abbrev pub space_with : Space → Option ℕ → Option Shown → Space
space_with space (Some target) (Some call) = (perform space target call.tag call.args).space
space_with space (Some target) None = space
space_with space None call = space

-- the namespace after entries
abbrev pub space_from : Script → Space → List EntryLine → Space
space_from script space [] = space
space_from script space (e ∷ es) = space_from script (space_with space (target_of script e.target) (performed_of e.decision)) es

-- the namespace after the lines before: all performed calls of their entries, in order, from the opening of the script
abbrev pub space_after : Script → List Line → Space
space_after script before = space_from script (opening script.start) (entries_of before)
