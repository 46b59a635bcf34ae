-- What a yes says of the lines of a text.
use Rattle.std.proofs.Common.{◌≡◌, refl, sym, subst, ap, ◌∙◌, ℕ, ◌+◌, List, [], ◌∷◌, ◌++◌, Bool, true, false, not, ◌&&◌, ◌==◌, append_assoc, if◌then◌else◌, arith}
use Rattle.std.proofs.lemmas.Bool.{and_parts, false≢true}
use Rattle.std.proofs.lemmas.Bool.Decides.{nat_tests}
use Rattle.std.specs.Prelude.{Option, None, Some, nat_eq}
use Rattle.std.specs.Cmp.Lexicographic.{pointwise}
use Rattle.sb_call.specs.Arguments.{fits}
use Rattle.sb_rule.specs.Verdicts.{verdict_of}
use Rattle.sb_rule.specs.declared.actions.Action.TheVariants as action
use Rattle.sb_rule.specs.declared.policies.Policy.{Policy}
use Rattle.sb_rule.specs.declared.verdicts.Verdict.{Verdict}
use Rattle.sb_rule.specs.declared.verdicts.Verdict.TheVariants as verdict
use Rattle.sb_statements.specs.declared.scripts.Script.{Script}
use Rattle.sb_text.specs.Lines.{NumberedRawLine, numbered_raw_lines, without_cr}
use Rattle.sb_transcript.specs.Fields.{written}
use Rattle.sb_transcript.specs.ReadingLaws.{ReadLinesAreWritten}
use Rattle.sb_transcript.specs.declared.read_lines.Line.{Line}
use Rattle.sb_transcript.specs.declared.read_lines.Line.TheVariants as line
use Rattle.sb_transcript.specs.declared.read_lines.ShownDecision.{ShownDecision}
use Rattle.sb_transcript.specs.declared.read_lines.ShownDecision.TheVariants as shown
use Rattle.sb_transcript.specs.declared.read_lines.ShownReply.{ShownReply}
use Rattle.sb_audit.specs.Answers.{refutation}
use Rattle.sb_audit.specs.Audited.{answer_at, audited_from, clause_at, decision_clause, end_answer, ended_line, entry_clause, failing, failing_line, line_with_end, policy_of, with_line}
use Rattle.sb_audit.specs.Before.{entries_of, entry_count, has_totals, result_count, space_after, target_of}
use Rattle.sb_audit.specs.Clauses.{has_channel, has_rule, is_allow, is_due, is_own, only_reads, reply_due, shows_rule}
use Rattle.sb_audit.specs.Comparing.{same_numbers, same_reply}
use Rattle.sb_audit.specs.Dues.{due_after, due_call, due_channel, due_reply, due_rule}
use Rattle.sb_audit.specs.Laws.{AreLines, AreRight, EntriesAreRight, IsGranted, IsRightEntry, YesIsOfLines}
use Rattle.sb_audit.specs.declared.answers.AuditAnswer.{AuditAnswer}
use Rattle.sb_audit.specs.declared.answers.AuditAnswer.TheVariants.{Yes}
use Rattle.sb_audit.specs.declared.dues.Due.{Due}
use Rattle.sb_audit.specs.declared.dues.Due.TheVariants as due

-- ---- the lines of a text to which the answer is yes

-- of lines that are left after others
pub record AreLeft (policies : List Policy) (script : Script) (before : List Line) (rest : List NumberedRawLine) (entries results : ℕ) : Type 0 where
  pub lines : List Line
  pub written_so : AreLines rest lines
  pub right : AreRight policies script before lines
  pub totals : has_totals (before ++ lines) ≡ true
  pub entries_are : entry_count (before ++ lines) ≡ entries
  pub results_are : result_count (before ++ lines) ≡ results

append_none : {X : Type 0} (xs : List X) → xs ++ [] ≡ xs
append_none [] = refl
append_none (x ∷ xs) = ap (λ ys. x ∷ ys) (append_none xs)

left_none : (policies : List Policy) (script : Script) (before : List Line) (n entries results : ℕ) → end_answer script before n ≡ Yes entries results
    → AreLeft policies script before [] entries results
left_none policies script before n entries results h = by_totals (has_totals before) refl
  where
    by_totals : (b : Bool) → has_totals before ≡ b → AreLeft policies script before [] entries results
    by_totals true e =
        let same : Yes (entry_count before) (result_count before) ≡ Yes entries results =
        subst (λ t. (if t then Yes (entry_count before) (result_count before) else refutation (n + 1) (due_after script before)) ≡ Yes entries results) e h in
        record {
          lines = [];
          written_so = tt;
          right = tt;
          totals = ap has_totals (append_none before) ∙ e;
          entries_are = ap entry_count (append_none before) ∙ (cc);
          results_are = ap result_count (append_none before) ∙ (cc);
        }
    by_totals false e =
        let same : refutation (n + 1) (due_after script before) ≡ Yes entries results =
        subst (λ t. (if t then Yes (entry_count before) (result_count before) else refutation (n + 1) (due_after script before)) ≡ Yes entries results) e h in
        absurd (cc)

-- a line that is read is written as it was, without one CR
written_as : ReadLinesAreWritten → (raw : NumberedRawLine) (l : Line) → ended_line raw ≡ Some l → (raw.is_ended ≡ true) × (without_cr raw.bytes ≡ written l)
written_as law raw l h = by_end raw.is_ended refl h
  where
    by_end : (b : Bool) → raw.is_ended ≡ b → line_with_end raw.bytes b ≡ Some l → (raw.is_ended ≡ true) × (without_cr raw.bytes ≡ written l)
    by_end true q e = (q, sym (law (without_cr raw.bytes) l e))
    by_end false q e = absurd (cc)

left_by : ReadLinesAreWritten → (policies : List Policy) (script : Script) (before : List Line) (n entries results : ℕ) (rest : List NumberedRawLine)
    → audited_from policies script before n rest ≡ Yes entries results → AreLeft policies script before rest entries results
left_by law policies script before n entries results [] h = left_none policies script before n entries results h
left_by law policies script before n entries results (raw ∷ rest) h =
    by_line (ended_line raw) refl h (λ l g. left_by law policies script (before ++ l ∷ []) raw.number entries results rest g)
  where
    by_clause : (o : Option Due) (later : AuditAnswer) → answer_at o raw.number later ≡ Yes entries results → (o ≡ None) × (later ≡ Yes entries results)
    by_clause None later e = (refl, e)
    by_clause (Some d) later e = absurd (cc)

    by_line : (o : Option Line) → ended_line raw ≡ o
        → answer_at (failing_line policies script before raw.is_ended o) raw.number (audited_from policies script (with_line before o) raw.number rest) ≡ Yes entries results
        → ((l : Line) → audited_from policies script (before ++ l ∷ []) raw.number rest ≡ Yes entries results → AreLeft policies script (before ++ l ∷ []) rest entries results)
        → AreLeft policies script before (raw ∷ rest) entries results
    by_line None e g again = absurd (cc)
    by_line (Some l) e g again =
        let parts = by_clause (failing policies script before l) (audited_from policies script (before ++ l ∷ []) raw.number rest) g in
        let left = again l parts.1 in
        let joined = append_assoc before (l ∷ []) left.lines in
        record {
          lines = l ∷ left.lines;
          written_so = let w = written_as law raw l e in (w.0, w.1, left.written_so);
          right = (parts.0, left.right);
          totals = subst (λ xs. has_totals xs ≡ true) joined left.totals;
          entries_are = subst (λ xs. entry_count xs ≡ entries) joined left.entries_are;
          results_are = subst (λ xs. result_count xs ≡ results) joined left.results_are;
        }

pub yes_is_of_lines : ReadLinesAreWritten → YesIsOfLines
yes_is_of_lines law policies script text entries results h =
    let left = left_by law policies script [] 0 entries results (numbered_raw_lines text) h in
    record {
      lines = left.lines;
      written_so = left.written_so;
      right = left.right;
      totals = left.totals;
      entries_are = left.entries_are;
      results_are = left.results_are;
    }

-- ---- an entry at which no clause fails

is_equal : (a b : ℕ) → (a == b) ≡ true → a ≡ b
is_equal a b h = grind (arith, nat_tests)

equal_numbers : (a b : List ℕ) → same_numbers a b ≡ true → a ≡ b
equal_numbers [] [] h = refl
equal_numbers [] (y ∷ b) h = absurd (cc)
equal_numbers (x ∷ a) [] h = absurd (cc)
equal_numbers (x ∷ a) (y ∷ b) h =
    let parts = and_parts (nat_eq x y) (pointwise nat_eq a b) h in
    let first = is_equal x y parts.0 in
    let more = equal_numbers a b parts.1 in
    cc

abbrev reply_with : ℕ → ℕ → ℕ → List ℕ → ShownReply
reply_with outcome status handle ext = record { outcome = outcome; status = status; handle = handle; ext = ext }

of_parts : (o o' s s' h h' : ℕ) (e e' : List ℕ) → o ≡ o' → s ≡ s' → h ≡ h' → e ≡ e' → reply_with o s h e ≡ reply_with o' s' h' e'
of_parts o o' s s' h h' e e' a b c d =
    ap (λ x. reply_with x s h e) a ∙ (ap (λ x. reply_with o' x h e) b ∙ (ap (λ x. reply_with o' s' x e) c ∙ ap (λ x. reply_with o' s' h' x) d))

equal_replies : (a b : ShownReply) → same_reply a b ≡ true → a ≡ b
equal_replies a b h =
    let x = and_parts (a.outcome == b.outcome && a.status == b.status && a.handle == b.handle) (same_numbers a.ext b.ext) h in
    let y = and_parts (a.outcome == b.outcome && a.status == b.status) (a.handle == b.handle) x.0 in
    let z = and_parts (a.outcome == b.outcome) (a.status == b.status) y.0 in
    of_parts a.outcome b.outcome a.status b.status a.handle b.handle a.ext b.ext
    (is_equal a.outcome b.outcome z.0) (is_equal a.status b.status z.1) (is_equal a.handle b.handle y.1) (equal_numbers a.ext b.ext x.1)

allow_is : (n : ℕ) (v : Verdict) → is_allow n v ≡ true → v ≡ verdict.Rule n action.Allow
allow_is n (verdict.Rule m action.Allow) h = ap (λ k. verdict.Rule k action.Allow) (is_equal m n h)
allow_is n (verdict.Rule m action.Deny) h = absurd (false≢true h)
allow_is n (verdict.Rule m action.Alarm) h = absurd (false≢true h)
allow_is n (verdict.Rule m action.Fake) h = absurd (false≢true h)
allow_is n (verdict.Rule m action.ReadOnly) h = absurd (false≢true h)
allow_is n verdict.NoRule h = absurd (false≢true h)

granted_is : (policy : Policy) (d : ShownDecision) → shows_rule policy d ≡ true → IsGranted policy d
granted_is policy (shown.Allowed tag args n) h =
    let parts = and_parts (fits tag args) (is_allow n (verdict_of policy tag args)) h in
    (parts.0, allow_is n (verdict_of policy tag args) parts.1)
granted_is policy (shown.ReadOnly tag args n) h =
    let parts = and_parts (fits tag args && has_rule policy tag n action.ReadOnly) (only_reads args) h in
    let first = and_parts (fits tag args) (has_rule policy tag n action.ReadOnly) parts.0 in
    (first.0, first.1, parts.1)
granted_is policy (shown.Refused fault) h = tt
granted_is policy (shown.NoRule tag) h = tt
granted_is policy (shown.Denied tag n) h = tt
granted_is policy (shown.Alarmed tag n) h = tt
granted_is policy (shown.Faked tag n) h = tt

-- the first of three tests that fails
abbrev first_failing : Due → Due → Due → Bool → Bool → Bool → Option Due
first_failing x y z a b c = if not a then Some x else (if not b then Some y else (if not c then Some z else None))

-- none of which fails
all_pass : (x y z : Due) (a b c : Bool) → first_failing x y z a b c ≡ None → (a ≡ true) × (b ≡ true) × (c ≡ true)
all_pass x y z true true true h = (refl, refl, refl)
all_pass x y z true true false h = absurd (cc)
all_pass x y z true false c h = absurd (cc)
all_pass x y z false b c h = absurd (cc)

passes : (b : Bool) (o : Option Due) (d : Due) → (if b then o else Some d) ≡ None → (b ≡ true) × (o ≡ None)
passes true o d h = (refl, h)
passes false o d h = absurd (cc)

pub entries_are_right : EntriesAreRight
entries_are_right policies script before e h =
    by_name (target_of script e.target) refl (passes (is_due script before (line.Entry e)) (clause_at policies script before (line.Entry e)) (due_after script before) h).1
  where
    by_name : (o : Option ℕ) → target_of script e.target ≡ o → entry_clause policies script (space_after script before) (entries_of before) e o ≡ None
        → IsRightEntry policies script before e
    by_name None named g = absurd (cc)
    by_name (Some target) named g =
        let policy = policy_of policies script target in
        let there = passes (has_channel script target e.channel) (decision_clause policy script (space_after script before) (entries_of before) target e) (due.Place (due_channel script target)) g in
        let wanted = reply_due (space_after script before) target e.decision in
        let all =
        all_pass (due.Rule (due_rule policy e.decision)) (due.Reply (due_reply e.reply wanted)) (due.Own (due_call policy script target e)) (shows_rule policy e.decision)
        (same_reply e.reply wanted) (is_own policy script (entries_of before) target e) there.1 in
        record {
          target = target;
          named = named;
          on_channel = there.0;
          granted = granted_is policy e.decision all.0;
          replied = equal_replies e.reply (reply_due (space_after script before) target e.decision) all.1;
          own = all.2;
        }
