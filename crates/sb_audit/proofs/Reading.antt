-- The lines of a transcript, read one after another.
use Rattle.std.proofs.Common.{◌≡◌, refl, sym, subst, ap, ◌∙◌, ◌<◌, ◌≤◌, ℕ, ◌+◌, ◌^◌, List, [], ◌∷◌, Bool, true, false, length, length-append, ◌==◌, if◌then◌else◌, arith}
use Rattle.std.proofs.lemmas.List.Sums.{count_by-le-length}
use Rattle.std.specs.Prelude.{Option, None, Some, ⊤}
use Rattle.std.specs.List.{onto_first}
use Rattle.sb_actor.specs.Found.{AreFound}
use Rattle.sb_rule.specs.declared.policies.Policy.{Policy}
use Rattle.sb_statements.specs.declared.scripts.Script.{Script}
use Rattle.sb_text.specs.Lines.{NumberedRawLine, is_ended, numbered_from, numbered_raw_lines, raw_lines}
use Rattle.sb_transcript.specs.declared.read_lines.EntryLine.{EntryLine}
use Rattle.sb_transcript.specs.declared.read_lines.TotalsLine.{TotalsLine}
use Rattle.sb_transcript.specs.declared.read_lines.Line.{Line}
use Rattle.sb_transcript.specs.declared.read_lines.Line.TheVariants as line
use Rattle.sb_audit.specs.Answers.{refutation}
use Rattle.sb_audit.specs.Audited.{answer_at, audited, audited_from, ended_line, failing_line, with_line}
use Rattle.sb_audit.specs.Before.{entries_of, has_totals, is_result}
use Rattle.sb_audit.specs.Clauses.{is_denied, is_faked, is_performed, is_refused, totals_due}
use Rattle.sb_audit.specs.Dues.{due_after, due_unread}
use Rattle.sb_audit.specs.Kept.{AreAtMost, FollowsLine, KeptAt, Keeps, end_kept, failing_line_kept}
use Rattle.sb_audit.specs.declared.answers.AuditAnswer.{AuditAnswer}
use Rattle.sb_audit.specs.declared.answers.AuditAnswer.TheVariants.{Yes}
use Rattle.sb_audit.specs.declared.dues.Due.{Due}
use Rattle.sb_audit.proofs.Keeping.{after_is, failing_is, keeps_next}

-- the lines are numbered from n + 1
abbrev pub IsNumbered : ℕ → List NumberedRawLine → Type 0
IsNumbered n [] = ⊤
IsNumbered n (raw ∷ more) = (raw.number ≡ n + 1) × IsNumbered raw.number more

numbered : (n m : ℕ) (last : Bool) (lines : List (List ℕ)) → m ≡ n + 1 → IsNumbered n (numbered_from m last lines)
numbered n m last [] e = tt
numbered n m last (x ∷ []) e = (e, tt)
numbered n m last (x ∷ y ∷ lines) e = (e, numbered m (m + 1) last (y ∷ lines) refl)

as_many : (n : ℕ) (last : Bool) (lines : List (List ℕ)) → length (numbered_from n last lines) ≡ length lines
as_many n last [] = refl
as_many n last (x ∷ []) = refl
as_many n last (x ∷ y ∷ lines) = let e = as_many (n + 1) last (y ∷ lines) in omega arith

onto_length : (b : ℕ) (lines : List (List ℕ)) → length (onto_first b lines) ≤ length lines + 1
onto_length b [] = omega arith
onto_length b (x ∷ lines) = omega arith

few_lines : (bs : List ℕ) → length (raw_lines bs) ≤ length bs
few_lines [] = omega arith
few_lines (b ∷ []) = by_byte (b == 10)
  where
    by_byte : (t : Bool) → length (if t then [] ∷ raw_lines [] else onto_first b (raw_lines [])) ≤ 1
    by_byte true = omega arith
    by_byte false = omega arith
few_lines (b ∷ c ∷ bs) = by_byte (b == 10) (few_lines (c ∷ bs)) (onto_length b (raw_lines (c ∷ bs)))
  where
    by_byte : (t : Bool) → length (raw_lines (c ∷ bs)) ≤ length (c ∷ bs) → length (onto_first b (raw_lines (c ∷ bs))) ≤ length (raw_lines (c ∷ bs)) + 1
        → length (if t then [] ∷ raw_lines (c ∷ bs) else onto_first b (raw_lines (c ∷ bs))) ≤ length (b ∷ c ∷ bs)
    by_byte true h g = omega arith
    by_byte false h g = omega arith

-- counts of lines are at most the number of lines
few_entries : (before : List Line) → length (entries_of before) ≤ length before
few_entries [] = omega arith
few_entries (line.Entry e ∷ before) = let h = few_entries before in omega arith
few_entries (line.Result r ∷ before) = let h = few_entries before in omega arith
few_entries (line.Totals t ∷ before) = let h = few_entries before in omega arith

totals_small : (before : List Line) → AreAtMost (length before) (totals_due before)
totals_small before =
    let few = few_entries before in
    let performed = count_by-le-length (λ (e : EntryLine). is_performed e.decision) (entries_of before) in
    let faked = count_by-le-length (λ (e : EntryLine). is_faked e.decision) (entries_of before) in
    let denied = count_by-le-length (λ (e : EntryLine). is_denied e.decision) (entries_of before) in
    let refused = count_by-le-length (λ (e : EntryLine). is_refused e.decision) (entries_of before) in
    record {
      entries = few;
      performed = omega arith;
      faked = omega arith;
      denied = omega arith;
      refused = omega arith;
      results = count_by-le-length is_result before;
    }

at_most_more : (n m : ℕ) (t : TotalsLine) → AreAtMost n t → n ≤ m → AreAtMost m t
at_most_more n m t h l = record {
  entries = let a = h.entries in omega arith;
  performed = let a = h.performed in omega arith;
  faked = let a = h.faked in omega arith;
  denied = let a = h.denied in omega arith;
  refused = let a = h.refused in omega arith;
  results = let a = h.results in omega arith;
}

-- some lines were read, and the answer to the rest after them is the whole answer
pub record IsRead (policies : List Policy) (script : Script) (whole : AuditAnswer) (most : ℕ) (kept : KeptAt) (last : ℕ) (rest : List NumberedRawLine) : Type 0 where
  pub before : List Line
  pub keeps : Keeps script before kept
  pub same : audited_from policies script before last rest ≡ whole
  pub numbers : IsNumbered last rest
  pub few : last + length rest ≤ most
  pub count : length before ≡ last

pub start_read : (policies : List Policy) (script : Script) (kept : KeptAt) (text : List ℕ) → Keeps script [] kept
    → IsRead policies script (audited policies script text) (length text) kept 0 (numbered_raw_lines text)
start_read policies script kept text keeps = record {
  before = [];
  keeps = keeps;
  same = refl;
  numbers = numbered 0 1 (is_ended text) (raw_lines text) refl;
  few = let a = as_many 1 (is_ended text) (raw_lines text) in let b = few_lines text in omega arith;
  count = refl;
}

module _ (policies : List Policy) (script : Script) (found : AreFound script) (whole : AuditAnswer) (most : ℕ)
    (kept : KeptAt) (last : ℕ) (raw : NumberedRawLine) (rest : List NumberedRawLine) (read : IsRead policies script whole most kept last (raw ∷ rest)) where
  pub small_enough : most + 1 < 2 ^ 32 → AreAtMost (2 ^ 32) kept.totals
  small_enough short =
      let small = subst (λ t. AreAtMost (length read.before) t) (sym read.keeps.totals) (totals_small read.before) in
      let few = read.few in
      let count = read.count in
      at_most_more (length read.before) (2 ^ 32) kept.totals small (omega arith)

  line_is : (l : Option Line) → failing_line_kept policies script kept raw.is_ended l ≡ failing_line policies script read.before raw.is_ended l
  line_is None = ap (λ after. Some (due_unread raw.is_ended after)) (after_is policies script read.before kept read.keeps)
  line_is (Some l) = failing_is policies script read.before kept read.keeps found l

  answered : audited_from policies script read.before last (raw ∷ rest)
      ≡ answer_at (failing_line_kept policies script kept raw.is_ended (ended_line raw)) raw.number (audited_from policies script (with_line read.before (ended_line raw)) raw.number rest)
  answered = ap (λ clause. answer_at clause raw.number (audited_from policies script (with_line read.before (ended_line raw)) raw.number rest)) (sym (line_is (ended_line raw)))

  pub stopped : (d : Due) → failing_line_kept policies script kept raw.is_ended (ended_line raw) ≡ Some d → refutation raw.number d ≡ whole
  stopped d h =
      sym (ap (λ found. answer_at found raw.number (audited_from policies script (with_line read.before (ended_line raw)) raw.number rest)) h) ∙ (sym answered ∙ read.same)

  pub next_read : (next : KeptAt) → failing_line_kept policies script kept raw.is_ended (ended_line raw) ≡ None → FollowsLine script (ended_line raw) kept next
      → IsRead policies script whole most next raw.number rest
  next_read next none follows = record {
    before = with_line read.before (ended_line raw);
    keeps = keeps_by (ended_line raw) none follows;
    same = sym (ap (λ found. answer_at found raw.number (audited_from policies script (with_line read.before (ended_line raw)) raw.number rest)) none) ∙ (sym answered ∙ read.same);
    numbers = read.numbers.1;
    few = let a = read.few in let b = read.numbers.0 in omega arith;
    count = count_by (ended_line raw) none;
  }
    where
      keeps_by : (l : Option Line) → failing_line_kept policies script kept raw.is_ended l ≡ None → FollowsLine script l kept next → Keeps script (with_line read.before l) next
      keeps_by None h f = absurd (cc)
      keeps_by (Some l) h f = keeps_next script read.before kept next read.keeps policies l h f

      count_by : (l : Option Line) → failing_line_kept policies script kept raw.is_ended l ≡ None → length (with_line read.before l) ≡ raw.number
      count_by None h = absurd (cc)
      count_by (Some l) h = let a = length-append read.before (l ∷ []) in let b = read.count in let c = read.numbers.0 in omega arith

pub ended_read : (policies : List Policy) (script : Script) (whole : AuditAnswer) (most : ℕ) (kept : KeptAt) (last : ℕ) → IsRead policies script whole most kept last []
    → end_kept script kept last ≡ whole
ended_read policies script whole most kept last read =
    ap (λ d. if kept.ended then Yes kept.totals.entries kept.totals.results else refutation (last + 1) d) (after_is policies script read.before kept read.keeps)
    ∙ (ap (λ ended. if ended then Yes kept.totals.entries kept.totals.results else refutation (last + 1) (due_after script read.before)) read.keeps.ended
    ∙ (ap (λ (totals : TotalsLine). if has_totals read.before then Yes totals.entries totals.results else refutation (last + 1) (due_after script read.before)) read.keeps.totals
    ∙ read.same))

-- what is no clause is none
pub no_clause : (o : Option Due) → ((d : Due) → o ≡ Some d → ⊥) → o ≡ None
no_clause None h = refl
no_clause (Some d) h = absurd (h d refl)
