-- What holds of each audit.
use Rattle.std.specs.Prelude.{◌≡◌, ℕ, ⊤, true, List, [], ◌∷◌, ◌++◌, None, Some}
use Rattle.sb_call.specs.Arguments.{fits}
use Rattle.sb_rule.specs.Verdicts.{verdict_of}
use Rattle.sb_rule.specs.declared.actions.Action.TheVariants.{Allow, ReadOnly}
use Rattle.sb_rule.specs.declared.policies.Policy.{Policy}
use Rattle.sb_rule.specs.declared.verdicts.Verdict.TheVariants.{Rule}
use Rattle.sb_statements.specs.declared.scripts.Script.{Script}
use Rattle.sb_text.specs.Lines.{NumberedRawLine, numbered_raw_lines, without_cr}
use Rattle.sb_transcript.specs.Fields.{written}
use Rattle.sb_transcript.specs.declared.read_lines.EntryLine.{EntryLine}
use Rattle.sb_transcript.specs.declared.read_lines.Line.{Line}
use Rattle.sb_transcript.specs.declared.read_lines.Line.TheVariants.{Entry}
use Rattle.sb_transcript.specs.declared.read_lines.ShownDecision.{ShownDecision}
use Rattle.sb_transcript.specs.declared.read_lines.ShownDecision.TheVariants as shown
use Rattle.sb_audit.specs.Audited.{audited, failing, policy_of}
use Rattle.sb_audit.specs.Before.{entries_of, entry_count, has_totals, result_count, space_after, target_of}
use Rattle.sb_audit.specs.Clauses.{has_channel, has_rule, is_own, only_reads, reply_due}
use Rattle.sb_audit.specs.Answers.{refutation}
use Rattle.sb_audit.specs.Spots.{due_spot}
use Rattle.sb_audit.specs.declared.answers.AuditAnswer.TheVariants.{Yes}
use Rattle.sb_audit.specs.declared.dues.Due.TheVariants.{Form}
use Rattle.sb_audit.specs.declared.dues.FormDue.TheVariants.{Line as DueLine}

-- an empty transcript fails the first clause at line 1, where the first entry or the first result is due, or the totals of a script without statements
abbrev pub EmptyTranscriptsAreRefuted : Type 0
EmptyTranscriptsAreRefuted =
    (policies : List Policy) (script : Script) → audited policies script [] ≡ refutation 1 (Form (DueLine (Some 0) (due_spot script 0)))

-- no clause fails at any of these lines, which come after others
abbrev pub AreRight : List Policy → Script → List Line → List Line → Type 0
AreRight policies script before [] = ⊤
AreRight policies script before (l ∷ lines) = (failing policies script before l ≡ None) × AreRight policies script (before ++ l ∷ []) lines

-- bytes up to each LF are these lines, each with at most one CR before its LF
abbrev pub AreLines : List NumberedRawLine → List Line → Type 0
AreLines [] [] = ⊤
AreLines [] (l ∷ lines) = ⊥
AreLines (raw ∷ more) [] = ⊥
AreLines (raw ∷ more) (l ∷ lines) = (raw.is_ended ≡ true) × (without_cr raw.bytes ≡ written l) × AreLines more lines

-- a text is these lines, each with LF or with CR and LF. No clause fails at any of them, the totals are among them, and they have these numbers of
-- entries and results
pub record IsOfLines (policies : List Policy) (script : Script) (text : List ℕ) (entries results : ℕ) : Type 0 where
  pub lines : List Line
  pub written_so : AreLines (numbered_raw_lines text) lines
  pub right : AreRight policies script [] lines
  pub totals : has_totals lines ≡ true
  pub entries_are : entry_count lines ≡ entries
  pub results_are : result_count lines ≡ results

-- so is each text to which the answer is yes
abbrev pub YesIsOfLines : Type 0
YesIsOfLines = (policies : List Policy) (script : Script) (text : List ℕ) (entries results : ℕ) → audited policies script text ≡ Yes entries results
    → IsOfLines policies script text entries results

-- what a decision shows as performed was allowed on exactly the arguments shown: by the first rule that holds, or by a `readonly` rule for this
-- call, and then its access has no other bits than those that read
abbrev pub IsGranted : Policy → ShownDecision → Type 0
IsGranted policy (shown.Allowed tag args n) = (fits tag args ≡ true) × (verdict_of policy tag args ≡ Rule n Allow)
IsGranted policy (shown.ReadOnly tag args n) = (fits tag args ≡ true) × (has_rule policy tag n ReadOnly ≡ true) × (only_reads args ≡ true)
IsGranted policy (shown.Refused fault) = ⊤
IsGranted policy (shown.NoRule tag) = ⊤
IsGranted policy (shown.Denied tag n) = ⊤
IsGranted policy (shown.Alarmed tag n) = ⊤
IsGranted policy (shown.Faked tag n) = ⊤

-- an entry of a target and a channel that are there: what it performed was allowed, its reply is that of the namespace which the performed calls
-- before it led to, and on a clean channel it is the answer to a call of its target, above its thread's earlier ones, decided as the policy says
pub record IsRightEntry (policies : List Policy) (script : Script) (before : List Line) (e : EntryLine) : Type 0 where
  pub target : ℕ
  pub named : target_of script e.target ≡ Some target
  pub on_channel : has_channel script target e.channel ≡ true
  pub granted : IsGranted (policy_of policies script target) e.decision
  pub replied : e.reply ≡ reply_due (space_after script before) target e.decision
  pub own : is_own (policy_of policies script target) script (entries_of before) target e ≡ true

-- so is each entry at which no clause fails
abbrev pub EntriesAreRight : Type 0
EntriesAreRight = (policies : List Policy) (script : Script) (before : List Line) (e : EntryLine) → failing policies script before (Entry e) ≡ None
    → IsRightEntry policies script before e
