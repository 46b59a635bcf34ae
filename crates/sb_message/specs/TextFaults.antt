-- The fault of a text of any kind.
use Rattle.std.specs.Prelude.{ℕ, List, ◌++◌, codes}
use Rattle.std.specs.Fmt.{decimal}
use Rattle.sb_dup.specs.Kinds as moves
use Rattle.sb_link.specs.Kinds as links
use Rattle.sb_ruletext.specs.Kinds as policies
use Rattle.sb_scripttext.specs.Kinds as scripts
use Rattle.sb_scripttext.specs.ScheduleKinds as schedules
use Rattle.sb_message.specs.declared.text_faults.TextFault.{TextFault}
use Rattle.sb_message.specs.declared.text_faults.TextFault.TheVariants.{Policy, Script, Schedule, Links, Moves, Transcript}

-- the exit code of a command that is refused for the fault
abbrev pub fault_code : TextFault → ℕ
fault_code (Policy fault) = 3
fault_code (Script fault) = 4
fault_code (Schedule fault) = 5
fault_code (Links fault) = 12
fault_code (Moves fault) = 13
fault_code (Transcript refuted) = 14

-- `policy line L fault N`
abbrev pub numbered_text : List ℕ → ℕ → ℕ → List ℕ
numbered_text word line kind = word ++ (codes " line " ++ (decimal line ++ (codes " fault " ++ decimal kind)))

-- what is told of the fault
abbrev pub fault_text : TextFault → List ℕ
fault_text (Policy fault) = numbered_text (codes "policy") fault.line (policies.kind_number fault.kind)
fault_text (Script fault) = numbered_text (codes "script") fault.line (scripts.kind_number fault.kind)
fault_text (Schedule fault) = numbered_text (codes "schedule") fault.line (schedules.kind_number fault.kind)
fault_text (Links fault) = numbered_text (codes "links") fault.line (links.kind_number fault.kind)
fault_text (Moves fault) = numbered_text (codes "moves") fault.line (moves.kind_number fault.kind)
fault_text (Transcript refuted) = codes "audit line " ++ (decimal refuted.line ++ (codes " clause " ++ decimal refuted.clause))
