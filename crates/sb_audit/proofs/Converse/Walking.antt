-- An audit walks through lines at which no clause fails.
use Rattle.std.proofs.Common.{◌≡◌, ◌∙◌, ℕ, ◌+◌, true, false, cond, ◌||◌, List, [], ◌∷◌, ◌++◌, ◌-◌, map, length, take, if◌then◌else◌, None, Some, refl, ap, sym, subst, append_assoc, arith}
use Rattle.std.proofs.lemmas.List.{append-nil}
use Rattle.std.proofs.lemmas.List.Folds.{list_any-append}
use Rattle.std.proofs.lemmas.List.Sums.{sum_by-append, sum_by-cons}
use Rattle.std.specs.Prelude.{⊤}
use Rattle.sb_transcript.specs.Fields.{written}
use Rattle.sb_transcript.specs.Ranges.{InRange}
use Rattle.sb_transcript.specs.Reading.{line_of}
use Rattle.sb_transcript.specs.ReadingLaws.{LinesAreRead, LinesEndWithoutCr}
use Rattle.sb_transcript.specs.declared.read_lines.EntryLine.{EntryLine}
use Rattle.sb_transcript.specs.declared.read_lines.Line.{Line}
use Rattle.sb_transcript.specs.declared.read_lines.Line.TheVariants as line
use Rattle.sb_rule.specs.declared.policies.Policy.{Policy}
use Rattle.sb_statements.specs.declared.scripts.Script.{Script}
use Rattle.sb_text.specs.Lines.{NumberedRawLine, without_cr}
use Rattle.sb_audit.specs.Answers.{refutation}
use Rattle.sb_audit.specs.Audited.{answer_at, audited_from, end_answer, failing, failing_line, with_line}
use Rattle.sb_audit.specs.Before.{entries_of, entry_count, has_totals, is_result, is_totals, result_count}
use Rattle.sb_audit.specs.declared.answers.AuditAnswer.TheVariants.{Yes}
use Rattle.sb_audit.specs.Dues.{due_after}
use Rattle.sb_audit.proofs.Converse.Lists.{AllOf}
use Rattle.sb_audit.proofs.Converse.RawLines.{raws_from}
use Rattle.sb_audit.proofs.Converse.ShownLines.{Placed, line_of_result}

-- no clause fails at any of these lines, in turn, after those before
abbrev pub IsClear : List Policy → Script → List Line → List Line → Type 0
IsClear policies script before [] = ⊤
IsClear policies script before (l ∷ ls) = (failing policies script before l ≡ None) × IsClear policies script (before ++ l ∷ []) ls

pub clear-append : (policies : List Policy) (script : Script) (before xs ys : List Line) → IsClear policies script before xs → IsClear policies script (before ++ xs) ys
    → IsClear policies script before (xs ++ ys)
clear-append policies script before [] ys a b = subst (λ (z : List Line). IsClear policies script z ys) (append-nil before) b
clear-append policies script before (x ∷ xs) ys a b =
    (a.0, clear-append policies script (before ++ x ∷ []) xs ys a.1 (subst (λ (z : List Line). IsClear policies script z ys) (sym (append_assoc before (x ∷ []) xs)) b))

-- what is written of the line is read as it, also if one CR is dropped at its end
abbrev pub IsRead : Line → Type 0
IsRead l = line_of (without_cr (written l)) ≡ Some l

pub read_whole : LinesAreRead → LinesEndWithoutCr → (l : Line) → InRange l → IsRead l
read_whole read without l h = ap line_of (ap (λ t. if t then take (length (written l) - 1) (written l) else written l) (without l h)) ∙ read l h

line_step : (policies : List Policy) (script : Script) (before : List Line) (n m : ℕ) (l : Line) (more : List NumberedRawLine) → IsRead l
    → failing policies script before l ≡ None
    → audited_from policies script before n (record { number = m; bytes = written l; is_ended = true } ∷ more) ≡ audited_from policies script (before ++ l ∷ []) m more
line_step policies script before n m l more read clear =
    ap (λ o. answer_at (failing_line policies script before true o) m (audited_from policies script (with_line before o) m more)) read
    ∙ ap (λ f. answer_at f m (audited_from policies script (before ++ l ∷ []) m more)) clear

end_yes : (script : Script) (lines : List Line) (n : ℕ) → has_totals lines ≡ true → end_answer script lines n ≡ Yes (entry_count lines) (result_count lines)
end_yes script lines n t = ap (λ b. cond b (Yes (entry_count lines) (result_count lines)) (refutation (n + 1) (due_after script lines))) t

-- an audit of lines that are read says yes if no clause fails at any of them and they have totals
pub walked : (policies : List Policy) (script : Script) (before : List Line) (n m : ℕ) (ls : List Line) → AllOf IsRead ls → IsClear policies script before ls
    → has_totals (before ++ ls) ≡ true
    → audited_from policies script before n (raws_from m (map written ls)) ≡ Yes (entry_count (before ++ ls)) (result_count (before ++ ls))
walked policies script before n m [] r c t = subst (λ (z : List Line). has_totals z ≡ true → end_answer script before n ≡ Yes (entry_count z) (result_count z)) (sym (append-nil before)) (end_yes script before n) t
walked policies script before n m (l ∷ ls) r c t =
    let same : before ++ l ∷ [] ++ ls ≡ before ++ l ∷ ls = append_assoc before (l ∷ []) ls in
    let rest = walked policies script (before ++ l ∷ []) m (m + 1) ls r.1 c.1 (subst (λ (z : List Line). has_totals z ≡ true) (sym same) t) in
    line_step policies script before n m l (raws_from (m + 1) (map written ls)) r.0 c.0
    ∙ subst (λ (z : List Line). audited_from policies script (before ++ l ∷ []) m (raws_from (m + 1) (map written ls)) ≡ Yes (entry_count z) (result_count z)) same rest

-- ---- what the lines before show

-- these entries, this many results, and no totals
pub record IsBefore (before : List Line) (entries : List EntryLine) (results : ℕ) : Type 0 where
  pub entries_are : entries_of before ≡ entries
  pub no_totals : has_totals before ≡ false
  pub results_are : result_count before ≡ results

pub entries_of-append : (xs ys : List Line) → entries_of (xs ++ ys) ≡ entries_of xs ++ entries_of ys
entries_of-append [] ys = refl
entries_of-append (line.Entry e ∷ xs) ys = ap (λ l. e ∷ l) (entries_of-append xs ys)
entries_of-append (line.Result r ∷ xs) ys = entries_of-append xs ys
entries_of-append (line.Totals t ∷ xs) ys = entries_of-append xs ys

pub result_count-append : (xs ys : List Line) → result_count (xs ++ ys) ≡ result_count xs + result_count ys
result_count-append xs ys = sum_by-append (λ x. cond (is_result x) 1 0) xs ys

pub has_totals-append : (xs ys : List Line) → has_totals (xs ++ ys) ≡ (has_totals xs || has_totals ys)
has_totals-append xs ys = list_any-append is_totals xs ys

only_entries : (es : List EntryLine) → IsBefore (map line.Entry es) es 0
only_entries [] = record { entries_are = refl; no_totals = refl; results_are = refl }
only_entries (e ∷ es) =
    let more = only_entries es in
    record {
      entries_are = ap (λ l. e ∷ l) more.entries_are;
      no_totals = more.no_totals;
      results_are = sum_by-cons (λ x. cond (is_result x) 1 0) (line.Entry e) (map line.Entry es) ∙ ap (λ n. 0 + n) more.results_are;
    }

only_results : (script : Script) (xs : List Placed) → IsBefore (map (line_of_result script) xs) [] (length xs)
only_results script [] = record { entries_are = refl; no_totals = refl; results_are = refl }
only_results script (x ∷ xs) =
    let more = only_results script xs in
    record {
      entries_are = more.entries_are;
      no_totals = more.no_totals;
      results_are = sum_by-cons (λ y. cond (is_result y) 1 0) (line_of_result script x) (map (line_of_result script) xs) ∙ ap (λ n. 1 + n) more.results_are ∙ omega arith;
    }

both_before : (xs ys : List Line) (es fs : List EntryLine) (m n : ℕ) → IsBefore xs es m → IsBefore ys fs n → IsBefore (xs ++ ys) (es ++ fs) (m + n)
both_before xs ys es fs m n a b = record {
  entries_are = entries_of-append xs ys ∙ ap (λ l. l ++ entries_of ys) a.entries_are ∙ ap (λ l. es ++ l) b.entries_are;
  no_totals = has_totals-append xs ys ∙ ap (λ t. t || has_totals ys) a.no_totals ∙ b.no_totals;
  results_are = result_count-append xs ys ∙ ap (λ k. k + result_count ys) a.results_are ∙ ap (λ k. m + k) b.results_are;
}

pub nothing_before : IsBefore [] [] 0
nothing_before = record { entries_are = refl; no_totals = refl; results_are = refl }

-- and entries more, or results more
pub before_entries : (before : List Line) (es more : List EntryLine) (n : ℕ) → IsBefore before es n → IsBefore (before ++ map line.Entry more) (es ++ more) n
before_entries before es more n a =
    let same : n + 0 ≡ n = omega arith in
    subst (λ k. IsBefore (before ++ map line.Entry more) (es ++ more) k) same (both_before before (map line.Entry more) es more n 0 a (only_entries more))

pub before_results : (script : Script) (before : List Line) (es : List EntryLine) (n : ℕ) (more : List Placed) → IsBefore before es n
    → IsBefore (before ++ map (line_of_result script) more) es (n + length more)
before_results script before es n more a =
    subst (λ (l : List EntryLine). IsBefore (before ++ map (line_of_result script) more) l (n + length more)) (append-nil es)
    (both_before before (map (line_of_result script) more) es [] n (length more) a (only_results script more))
