-- The transcript of a report is read back, line by line, as what its lines show.
use Rattle.std.proofs.Common.{◌≡◌, ◌∙◌, ℕ, ◌+◌, true, List, [], ◌∷◌, ◌++◌, map, refl, ap, sym, subst, append_assoc}
use Rattle.std.proofs.lemmas.List.{map-append}
use Rattle.std.specs.List.{list_all}
use Rattle.sb_book.specs.Readiness.{IsReady}
use Rattle.sb_book.specs.declared.entries.Entry.{Entry}
use Rattle.sb_book.specs.declared.reports.Report.{Report}
use Rattle.sb_transcript.specs.Fields.{written}
use Rattle.sb_transcript.specs.Printed.{shown_entry, shown_result_line}
use Rattle.sb_transcript.specs.declared.read_lines.EntryLine.{EntryLine}
use Rattle.sb_transcript.specs.declared.read_lines.Line.{Line}
use Rattle.sb_transcript.specs.declared.read_lines.Line.TheVariants as line
use Rattle.sb_outside.specs.Outside.{joined}
use Rattle.sb_rule.specs.declared.policies.Policy.{Policy}
use Rattle.sb_statements.specs.declared.results.StmtResult.{StmtResult}
use Rattle.sb_statements.specs.declared.scripts.Script.{Script}
use Rattle.sb_text.specs.Lines.{numbered_raw_lines}
use Rattle.sb_transcript.specs.Totals.{shown_totals, totals_line}
use Rattle.sb_transcript.specs.Laws.{LinesEndOnce}
use Rattle.sb_base.specs.OneLine.{is_one_line}
use Rattle.sb_transcript.specs.Transcripts.{entry_lines, thread_lines, target_lines, result_lines, transcript, transcript_lines}
use Rattle.sb_audit.specs.declared.spots.Spot.{Spot}
use Rattle.sb_audit.proofs.Converse.Lists.{map_twice}
use Rattle.sb_audit.proofs.Converse.RawLines.{lines_back, raws_from, with_lf}

-- what is shown of entries, the first of which has the number n
abbrev pub shown_entries : Script → ℕ → List Entry → List EntryLine
shown_entries script n [] = []
shown_entries script n (e ∷ es) = shown_entry script n e ∷ shown_entries script (n + 1) es

-- a result, and the place of its statement
pub record Placed : Type 0 where
  pub spot : Spot
  pub result : StmtResult

abbrev pub placed_at : ℕ → ℕ → ℕ → StmtResult → Placed
placed_at t k i r = record { spot = record { target = t; thread = k; place = i }; result = r }

-- the results of a thread, from a place on
abbrev pub placed_thread : ℕ → ℕ → ℕ → List StmtResult → List Placed
placed_thread t k i [] = []
placed_thread t k i (r ∷ rs) = placed_at t k i r ∷ placed_thread t k (i + 1) rs

-- of a target, from a thread on
abbrev pub placed_target : ℕ → ℕ → List (List StmtResult) → List Placed
placed_target t k [] = []
placed_target t k (rs ∷ more) = placed_thread t k 0 rs ++ placed_target t (k + 1) more

-- of all targets, from this one on
abbrev pub placed : ℕ → List (List (List StmtResult)) → List Placed
placed t [] = []
placed t (threads ∷ more) = placed_target t 0 threads ++ placed (t + 1) more

-- the line that shows a result
abbrev pub line_of_result : Script → Placed → Line
line_of_result script x = line.Result (shown_result_line script x.spot.target x.spot.thread x.spot.place x.result)

-- what the lines of a transcript show
abbrev pub shown_lines : Script → Report → List Line
shown_lines script report =
    map line.Entry (shown_entries script 0 report.entries) ++ (map (line_of_result script) (placed 0 report.results) ++ line.Totals (shown_totals report) ∷ [])

-- a line as it is printed
abbrev text_of : Line → List ℕ
text_of l = with_lf (written l)

entries_printed : (script : Script) (n : ℕ) (es : List Entry) → entry_lines script n es ≡ map text_of (map line.Entry (shown_entries script n es))
entries_printed script n [] = refl
entries_printed script n (e ∷ es) = ap (λ ls. text_of (line.Entry (shown_entry script n e)) ∷ ls) (entries_printed script (n + 1) es)

thread_printed : (script : Script) (t k i : ℕ) (rs : List StmtResult)
    → thread_lines script t k i rs ≡ map (λ x. text_of (line_of_result script x)) (placed_thread t k i rs)
thread_printed script t k i [] = refl
thread_printed script t k i (r ∷ rs) = ap (λ ls. text_of (line_of_result script (placed_at t k i r)) ∷ ls) (thread_printed script t k (i + 1) rs)

target_printed : (script : Script) (t k : ℕ) (threads : List (List StmtResult))
    → target_lines script t k threads ≡ map (λ x. text_of (line_of_result script x)) (placed_target t k threads)
target_printed script t k [] = refl
target_printed script t k (rs ∷ more) =
    ap (λ ls. ls ++ target_lines script t (k + 1) more) (thread_printed script t k 0 rs)
    ∙ ap (λ ls. map (λ x. text_of (line_of_result script x)) (placed_thread t k 0 rs) ++ ls) (target_printed script t (k + 1) more)
    ∙ sym (map-append (λ x. text_of (line_of_result script x)) (placed_thread t k 0 rs) (placed_target t (k + 1) more))

results_printed : (script : Script) (t : ℕ) (results : List (List (List StmtResult)))
    → result_lines script t results ≡ map (λ x. text_of (line_of_result script x)) (placed t results)
results_printed script t [] = refl
results_printed script t (threads ∷ more) =
    ap (λ ls. ls ++ result_lines script (t + 1) more) (target_printed script t 0 threads)
    ∙ ap (λ ls. map (λ x. text_of (line_of_result script x)) (placed_target t 0 threads) ++ ls) (results_printed script (t + 1) more)
    ∙ sym (map-append (λ x. text_of (line_of_result script x)) (placed_target t 0 threads) (placed (t + 1) more))

-- the lines of a transcript are what is written of those that are shown, each with an LF
all_printed : (script : Script) (report : Report)
    → transcript_lines script report ≡ map with_lf (map written (shown_lines script report))
all_printed script report =
    let entries = map line.Entry (shown_entries script 0 report.entries) in
    let results = map (line_of_result script) (placed 0 report.results) in
    let of_entries : entry_lines script 0 report.entries ≡ map text_of entries = entries_printed script 0 report.entries in
    let of_results : result_lines script 0 report.results ≡ map text_of results =
    results_printed script 0 report.results ∙ sym (map_twice text_of (line_of_result script) (placed 0 report.results)) in
    ap (λ ls. ls ++ result_lines script 0 report.results ++ totals_line report ∷ []) of_entries
    ∙ ap (λ ls. map text_of entries ++ ls ++ totals_line report ∷ []) of_results
    ∙ append_assoc (map text_of entries) (map text_of results) (map text_of (line.Totals (shown_totals report) ∷ []))
    ∙ ap (λ ls. map text_of entries ++ ls) (sym (map-append text_of results (line.Totals (shown_totals report) ∷ [])))
    ∙ sym (map-append text_of entries (results ++ line.Totals (shown_totals report) ∷ []))
    ∙ sym (map_twice with_lf written (shown_lines script report))

-- so a transcript falls into them
pub transcript_read : LinesEndOnce → (policies : List Policy) (script : Script) (report : Report) → IsReady policies script
    → numbered_raw_lines (transcript script report) ≡ raws_from 1 (map written (shown_lines script report))
transcript_read once policies script report ready =
    let same = all_printed script report in
    let ends : list_all is_one_line (map with_lf (map written (shown_lines script report))) ≡ true =
    subst (λ (ls : List (List ℕ)). list_all is_one_line ls ≡ true) same (once policies script report ready) in
    ap (λ ls. numbered_raw_lines (joined ls)) same ∙ lines_back (map written (shown_lines script report)) ends
