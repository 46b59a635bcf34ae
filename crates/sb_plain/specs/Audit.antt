-- What `audit POLICY SCRIPT TRANSCRIPT` means.
use Rattle.std.specs.Prelude.{ℕ, ◌-◌, List, ◌++◌, map, slice_get, Option, None, Some, Result, Ok, Err, codes}
use Rattle.std.specs.Fmt.{decimal}
use Rattle.sb_audit.specs.Audited.{audited}
use Rattle.sb_audit.specs.declared.answers.AuditAnswer.{AuditAnswer}
use Rattle.sb_audit.specs.declared.answers.AuditAnswer.TheVariants.{Yes, No}
use Rattle.sb_audit.specs.declared.answers.Refuted.{Refuted}
use Rattle.sb_message.specs.declared.statuses.EndStatus.TheVariants.{Done}
use Rattle.sb_message.specs.declared.statuses.Refusal.TheVariants.{Text}
use Rattle.sb_message.specs.declared.text_faults.TextFault.TheVariants.{Transcript}
use Rattle.sb_rule.specs.declared.policies.Policy.{Policy}
use Rattle.sb_statements.specs.declared.scripts.Script.{Script}
use Rattle.sb_text.specs.Lines.{numbered_raw_lines}
pub use Rattle.sb_transcript.specs.Lengths.{most_transcript_bytes}
use Rattle.sb_plain.specs.Contents.{Contents, FileContent, ShownRefusal}
use Rattle.sb_plain.specs.Ends.{End}
use Rattle.sb_plain.specs.ScriptEnds.{needed, script_end}

-- the line of this number, from 1, as it is between LFs, if there is one
abbrev pub raw_line : ℕ → List ℕ → Option (List ℕ)
raw_line n text = slice_get (map (λ line. line.bytes) (numbered_raw_lines text)) (n - 1)

-- the refusal of a transcript that is refuted, with the line at which it is
abbrev pub refuted_at : Refuted → FileContent → ShownRefusal
refuted_at refuted text = record { why = Text text.which (Transcript refuted); shown = raw_line refuted.line text.bytes }

-- `audit yes entries E results S`
abbrev pub yes_line : ℕ → ℕ → List ℕ
yes_line entries results = codes "audit yes entries " ++ (decimal entries ++ (codes " results " ++ (decimal results ++ codes "\n")))

-- the answer is written, and there is no run
abbrev pub answered_end : List ℕ → End
answered_end line = record { text = Some line; status = Done; run = None; notes = None }

-- the end of the audit of a transcript, or its refusal
abbrev pub end_by : FileContent → AuditAnswer → Result End ShownRefusal
end_by text (Yes entries results) = Ok (answered_end (yes_line entries results))
end_by text (No refuted) = Err (refuted_at refuted text)

-- the same of a transcript under these policies and this script
abbrev pub audited_end : List Policy → Script → FileContent → Result End ShownRefusal
audited_end policies script text = end_by text (audited policies script text.bytes)

abbrev pub audit_end : Contents → Result End ShownRefusal
audit_end contents = script_end most_transcript_bytes (λ script. needed Ok) audited_end contents
