-- The transcript of a report that fits passes an audit.
use Rattle.std.proofs.Common.{◌≡◌, ◌∙◌, ℕ, ◌+◌, ◌^◌, ◌<◌, zero, suc, Bool, true, false, not, cond, eqb, ◌&&◌, ◌||◌, List, [], ◌∷◌, ◌++◌, map, length, None, Some, slice_get, slice_index_or, is_ok, is_none, count_by, refl, ap, sym, subst, append_assoc, arith, length-append}
use Rattle.std.proofs.lemmas.Bool.{and_from, and_parts, eq-eqb}
use Rattle.std.proofs.lemmas.List.{append-nil, length-map}
use Rattle.std.proofs.lemmas.List.Sums.{count_by-le-length, sum_by-cons}
use Rattle.std.proofs.lemmas.Option.{none-some, slice_get_past}
use Rattle.std.specs.List.{list_all}
use Rattle.sb_block.specs.Laws.{FaultlessCopiesFit}
use Rattle.sb_book.specs.Histories.{IsEntry, IsLegalFrom, setting_of, space_after}
use Rattle.sb_book.specs.Readiness.{IsReady, is_judged}
use Rattle.sb_book.specs.Reports as reports
use Rattle.sb_book.specs.declared.entries.Entry.{Entry}
use Rattle.sb_book.specs.declared.reports.Report.{Report}
use Rattle.sb_core.specs.Results.{result_at}
use Rattle.sb_kernel.specs.Namespaces.{Space}
use Rattle.sb_kernel.specs.Openings.{opened, opening}
use Rattle.sb_transcript.specs.ReadingLaws.{LinesAreRead, LinesEndWithoutCr}
use Rattle.sb_transcript.specs.Printed.{shown_entry, shown_result, shown_result_line}
use Rattle.sb_transcript.specs.Ranges.{EntryInRange, InRange, ResultInRange, ResultLineInRange, TotalsInRange}
use Rattle.sb_transcript.specs.declared.read_lines.EntryLine.{EntryLine}
use Rattle.sb_transcript.specs.declared.read_lines.Line.{Line}
use Rattle.sb_transcript.specs.declared.read_lines.Line.TheVariants as line
use Rattle.sb_rule.specs.Verdicts.{DecidingRuleIsFirst}
use Rattle.sb_rule.specs.WellMade.{are_well_made}
use Rattle.sb_rule.specs.declared.policies.Policy.{Policy}
use Rattle.sb_statements.specs.SoundScripts.{has_short_names}
use Rattle.sb_statements.specs.Soundness.{is_sound}
use Rattle.sb_statements.specs.declared.results.StmtResult.{StmtResult}
use Rattle.sb_statements.specs.declared.scripts.Script.{Script}
use Rattle.sb_transcript.specs.Laws.{LinesEndOnce}
use Rattle.sb_transcript.specs.Totals as totals
use Rattle.sb_transcript.specs.Totals.{shown_totals}
use Rattle.sb_audit.specs.Audited.{audited_from, failing}
use Rattle.sb_audit.specs.Before.{entries_of, entry_count, has_totals, result_count}
use Rattle.sb_audit.specs.Clauses.{count_of, is_denied, is_faked, is_performed, is_refused, same_totals, totals_due}
use Rattle.sb_audit.specs.Converse.{ReportsThatFitAreAudited}
use Rattle.sb_transcript.specs.Printable.{IsPrintable, IsPrintableEntry, IsPrintableResult}
use Rattle.sb_audit.specs.Spots.{due_spot, spots}
use Rattle.sb_audit.specs.declared.answers.AuditAnswer.TheVariants.{Yes}
use Rattle.sb_audit.specs.declared.dues.Due.TheVariants.{Totals}
use Rattle.sb_audit.specs.declared.spots.Spot.{Spot}
use Rattle.sb_audit.proofs.Converse.Decided.{denied_counted, faked_counted, performed_counted, refused_counted}
use Rattle.sb_audit.proofs.Converse.EntriesPass.{IsCommon, IsPlaced, entries_pass, entry_placed, length-shown, passes}
use Rattle.sb_audit.proofs.Converse.Lists.{AllOf, AllOf-append, some_same}
use Rattle.sb_audit.proofs.Converse.Places.{IsThere, few_channels, short_named, statement_there}
use Rattle.sb_audit.proofs.Converse.ResultsPass.{AreAllPlaced, IsRightResult, all_placed, few_results, results_pass, right_result, spot_of, spots_are}
use Rattle.sb_audit.proofs.Converse.ShownLines.{line_of_result, placed, placed_at, placed_target, placed_thread, shown_entries, shown_lines, transcript_read}
use Rattle.sb_audit.proofs.Converse.Walking.{IsBefore, IsClear, IsRead, before_entries, before_results, clear-append, entries_of-append, has_totals-append, nothing_before, read_whole, result_count-append, walked}

-- ---- how many results there are

length-placed_thread : (t k i : ℕ) (rs : List StmtResult) → length (placed_thread t k i rs) ≡ length rs
length-placed_thread t k i [] = refl
length-placed_thread t k i (r ∷ rs) = ap suc (length-placed_thread t k (i + 1) rs)

length-placed_target : (t k : ℕ) (threads : List (List StmtResult)) → length (placed_target t k threads) ≡ reports.thread_count threads
length-placed_target t k [] = refl
length-placed_target t k (rs ∷ more) =
    length-append (placed_thread t k 0 rs) (placed_target t (k + 1) more)
    ∙ ap (λ n. n + length (placed_target t (k + 1) more)) (length-placed_thread t k 0 rs) ∙ ap (λ n. length rs + n) (length-placed_target t (k + 1) more)
    ∙ sym (sum_by-cons (λ (results : List StmtResult). length results) rs more)

length-placed : (t : ℕ) (results : List (List (List StmtResult))) → length (placed t results) ≡ reports.result_count results
length-placed t [] = refl
length-placed t (threads ∷ more) =
    length-append (placed_target t 0 threads) (placed (t + 1) more)
    ∙ ap (λ n. n + length (placed (t + 1) more)) (length-placed_target t 0 threads) ∙ ap (λ n. reports.thread_count threads + n) (length-placed (t + 1) more)
    ∙ sym (sum_by-cons reports.thread_count threads more)

-- ---- 7. totals

totals_same : (script : Script) (report : Report) (before : List Line) → IsBefore before (shown_entries script 0 report.entries) (length (placed 0 report.results))
    → same_totals (shown_totals report) (totals_due before) ≡ true
totals_same script report before b =
    let a = shown_totals report in
    let d = totals_due before in
    let es = report.entries in
    let entries : a.entries ≡ d.entries = sym (ap (λ (l : List EntryLine). length l) b.entries_are ∙ length-shown script 0 es) in
    let performed : a.performed ≡ d.performed = sym (ap (count_of is_performed) b.entries_are ∙ performed_counted script 0 es) in
    let faked : a.faked ≡ d.faked = sym (ap (count_of is_faked) b.entries_are ∙ faked_counted script 0 es) in
    let denied : a.denied ≡ d.denied = sym (ap (count_of is_denied) b.entries_are ∙ denied_counted script 0 es) in
    let refused : a.refused ≡ d.refused = sym (ap (count_of is_refused) b.entries_are ∙ refused_counted script 0 es) in
    let results : a.results ≡ d.results = sym (b.results_are ∙ length-placed 0 report.results) in
    and_from (eqb a.entries d.entries && eqb a.performed d.performed && eqb a.faked d.faked && eqb a.denied d.denied && eqb a.refused d.refused) (eqb a.results d.results)
    (and_from (eqb a.entries d.entries && eqb a.performed d.performed && eqb a.faked d.faked && eqb a.denied d.denied) (eqb a.refused d.refused)
    (and_from (eqb a.entries d.entries && eqb a.performed d.performed && eqb a.faked d.faked) (eqb a.denied d.denied)
    (and_from (eqb a.entries d.entries && eqb a.performed d.performed) (eqb a.faked d.faked)
    (and_from (eqb a.entries d.entries) (eqb a.performed d.performed) (eq-eqb a.entries d.entries entries) (eq-eqb a.performed d.performed performed))
    (eq-eqb a.faked d.faked faked)) (eq-eqb a.denied d.denied denied)) (eq-eqb a.refused d.refused refused)) (eq-eqb a.results d.results results)

totals_pass : (policies : List Policy) (script : Script) (report : Report) (before : List Line)
    → IsBefore before (shown_entries script 0 report.entries) (length (placed 0 report.results)) → spots script ≡ map spot_of (placed 0 report.results)
    → failing policies script before (line.Totals (shown_totals report)) ≡ None
totals_pass policies script report before b order =
    let all = placed 0 report.results in
    let past : due_spot script (result_count before) ≡ None =
    ap (due_spot script) b.results_are ∙ ap (λ (l : List Spot). slice_get l (length all)) order
    ∙ slice_get_past (map spot_of all) (length all) (omega (arith, length-map all spot_of)) in
    passes policies script before (line.Totals (shown_totals report))
    (and_from (not (has_totals before)) (is_none (due_spot script (result_count before))) (ap not b.no_totals) (ap is_none past))
    (ap (λ t. cond t None (Some (Totals (totals_due before)))) (totals_same script report before b))

-- ---- ranges

AllOf-map : {A B : Type 0} (P : B → Type 0) (f : A → B) (xs : List A) → AllOf (λ x. P (f x)) xs → AllOf P (map f xs)
AllOf-map P f [] a = tt
AllOf-map P f (x ∷ xs) a = (a.0, AllOf-map P f xs a.1)

entry_in_range : (script : Script) (n : ℕ) (e : Entry) → is_sound script ≡ true → has_short_names script ≡ true → IsPlaced script e → IsPrintableEntry e → n < 2 ^ 64
    → EntryInRange (shown_entry script n e)
entry_in_range script n e sound short p printable low =
    let few = few_channels script e.target p.target sound p.is_target in
    let channel = p.channel in
    record {
      number = low;
      target = short_named script e.target p.target short p.is_target;
      channel = omega arith;
      mark = printable.mark;
      decision = printable.decision;
      reply = printable.reply;
    }

entries_read : ((l : Line) → InRange l → IsRead l) → (script : Script) (m : ℕ) (es : List Entry) → is_sound script ≡ true → has_short_names script ≡ true
    → ((n : ℕ) (e : Entry) → slice_get es n ≡ Some e → IsPlaced script e × IsPrintableEntry e) → m + length es < 2 ^ 64
    → AllOf IsRead (map line.Entry (shown_entries script m es))
entries_read read script m [] sound short h low = tt
entries_read read script m (e ∷ es) sound short h low =
    let w = h 0 e refl in (
      read (line.Entry (shown_entry script m e)) (entry_in_range script m e sound short w.0 w.1 (omega arith)),
      entries_read read script (m + 1) es sound short (λ n d g. h (suc n) d g) (omega arith),
    )

result_in_range : (script : Script) (t k i : ℕ) (r : StmtResult) → has_short_names script ≡ true → IsThere script t k i → ResultInRange (shown_result r)
    → ResultLineInRange (shown_result_line script t k i r)
result_in_range script t k i r short there printable =
    let thread = there.few_threads in
    let place = there.place in
    record {
      target = short_named script t there.target short there.is_target;
      thread = omega arith;
      place = omega arith;
      result = printable;
    }

-- a result at a place is one of a thread's, which are one of a target's
list_there : {A : Type 0} (xs : List (List A)) (n k : ℕ) (x : A) → slice_get (slice_index_or xs n []) k ≡ Some x → slice_get xs n ≡ Some (slice_index_or xs n [])
list_there [] n k x h = absurd (none-some x h)
list_there (y ∷ ys) zero k x h = refl
list_there (y ∷ ys) (suc n) k x h = list_there ys n k x h

printable_at : (report : Report) → IsPrintable report → (t k i : ℕ) (r : StmtResult) → result_at report.results t k i ≡ Some r → IsPrintableResult r
printable_at report printable t k i r h =
    let threads = slice_index_or report.results t [] in
    let of_thread : slice_get threads k ≡ Some (slice_index_or threads k []) = list_there threads k i r h in
    let of_target : slice_get report.results t ≡ Some threads = list_there report.results t k (slice_index_or threads k []) of_thread in
    printable.results t threads of_target k (slice_index_or threads k []) of_thread i r h

few_such : (is_such : Entry → Bool) (es : List Entry) → length es < 2 ^ 64 → count_by is_such es < 2 ^ 64
few_such is_such es low = let most = count_by-le-length is_such es in omega arith

totals_in_range : (report : Report) → length report.entries < 2 ^ 64 → reports.result_count report.results < 2 ^ 64 → TotalsInRange (shown_totals report)
totals_in_range report entries results = record {
  entries = entries;
  performed = few_such (λ e. totals.is_performed e.decision) report.entries entries;
  faked = few_such (λ e. totals.is_faked e.decision) report.entries entries;
  denied = few_such (λ e. totals.is_denied e.decision) report.entries entries;
  refused = few_such (λ e. totals.is_refused e.decision) report.entries entries;
  results = results;
}

-- ---- what the whole shows

-- the entries of a legal history are placed
legal_placed : (policies : List Policy) (script : Script) (ns : Space) (es : List Entry) → IsLegalFrom (setting_of policies script) ns es → AreAllPlaced script es
legal_placed policies script ns [] legal n e h = absurd (none-some e h)
legal_placed policies script ns (d ∷ es) legal zero e h = entry_placed policies script ns e (subst (λ (x : Entry). IsEntry (setting_of policies script) ns x) (some_same d e h) legal.0)
legal_placed policies script ns (d ∷ es) legal (suc n) e h = legal_placed policies script (space_after ns d.target d.decision) es legal.1 n e h

or_true : (b : Bool) → (b || true) ≡ true
or_true true = refl
or_true false = refl

-- the counts of lines with totals after them
whole_answer : (script : Script) (es : List EntryLine) (n : ℕ) (before after : List Line) (t : Line) → IsBefore (before ++ after) es n → entries_of (t ∷ []) ≡ []
    → result_count (t ∷ []) ≡ 0 → has_totals (t ∷ []) ≡ true
    → (has_totals (before ++ (after ++ t ∷ [])) ≡ true) × (entry_count (before ++ (after ++ t ∷ [])) ≡ length es) × (result_count (before ++ (after ++ t ∷ [])) ≡ n)
whole_answer script es n before after t b none zero_results has =
    let same : before ++ after ++ t ∷ [] ≡ before ++ (after ++ t ∷ []) = append_assoc before after (t ∷ []) in
    let totals : has_totals (before ++ after ++ t ∷ []) ≡ true =
    has_totals-append (before ++ after) (t ∷ []) ∙ ap (λ x. has_totals (before ++ after) || x) has ∙ or_true (has_totals (before ++ after)) in
    let entries : entries_of (before ++ after ++ t ∷ []) ≡ es =
    entries_of-append (before ++ after) (t ∷ []) ∙ ap (λ l. entries_of (before ++ after) ++ l) none ∙ append-nil (entries_of (before ++ after)) ∙ b.entries_are in
    let count : result_count (before ++ after ++ t ∷ []) ≡ n =
    result_count-append (before ++ after) (t ∷ []) ∙ ap (λ k. result_count (before ++ after) + k) zero_results ∙ omega (arith, b.results_are) in
    (ap has_totals (sym same) ∙ totals, ap entry_count (sym same) ∙ ap (λ (l : List EntryLine). length l) entries, ap result_count (sym same) ∙ count)

sound_of : (policies : List Policy) (script : Script) → IsReady policies script → is_sound script ≡ true
sound_of policies script ready =
    let all = and_parts (is_sound script && are_well_made policies && list_all (is_judged (length policies)) script.targets) (is_ok (opened script.start)) ready.ready in
    let most = and_parts (is_sound script && are_well_made policies) (list_all (is_judged (length policies)) script.targets) all.0 in
    (and_parts (is_sound script) (are_well_made policies) most.0).0

pub transcripts_pass : LinesAreRead → LinesEndWithoutCr → LinesEndOnce → FaultlessCopiesFit
    → DecidingRuleIsFirst → ReportsThatFitAreAudited
transcripts_pass lines without once fitting deciding policies script report ready fits printable =
    let read : (l : Line) → InRange l → IsRead l = read_whole lines without in
    let sound = sound_of policies script ready in
    let short = ready.short in
    let es = shown_entries script 0 report.entries in
    let all = placed 0 report.results in
    let of_entries = map line.Entry es in
    let of_results = map (line_of_result script) all in
    let t = line.Totals (shown_totals report) in
    let common : IsCommon script report.entries report.results =
    record { sound = sound; fitting = fitting; deciding = deciding; replies = fits.own_replies; suit = fits.suit } in
    let there = legal_placed policies script (opening script.start) report.entries fits.history.legal in
    let order = spots_are script report.results fits.whole_results in
    let after_entries : IsBefore of_entries es 0 = before_entries [] [] es 0 nothing_before in
    let after_results : IsBefore (of_entries ++ of_results) es (0 + length all) = before_results script of_entries es 0 all after_entries in
    let after : IsBefore (of_entries ++ of_results) es (length all) = subst (λ n. IsBefore (of_entries ++ of_results) es n) (omega arith) after_results in
    let clear_entries : IsClear policies script [] of_entries =
    entries_pass policies script report.entries report.results common [] report.entries [] (opening script.start) refl tt fits.history.legal nothing_before refl in
    let rights : AllOf (IsRightResult script es) all =
    all_placed (IsRightResult script es) 0 report.results
    (λ m k j r at. subst (λ (n : ℕ). IsRightResult script es (placed_at n k j r)) (omega arith) (right_result script report.entries report.results common there m k j r at)) in
    let clear_results : IsClear policies script of_entries of_results =
    results_pass policies script es all order [] all of_entries refl rights after_entries in
    let clear_totals : IsClear policies script (of_entries ++ of_results) (t ∷ []) = (totals_pass policies script report (of_entries ++ of_results) after order, tt) in
    let clear : IsClear policies script [] (shown_lines script report) =
    clear-append policies script [] of_entries (of_results ++ t ∷ []) clear_entries (clear-append policies script of_entries of_results (t ∷ []) clear_results clear_totals) in
    let read_entries : AllOf IsRead of_entries =
    entries_read read script 0 report.entries sound short (λ n e h. (there n e h, printable.entries n e h)) (omega (arith, printable.few)) in
    let read_results : AllOf IsRead of_results =
    AllOf-map IsRead (line_of_result script) all (all_placed (λ x. IsRead (line_of_result script x)) 0 report.results
    (λ m k j r at. let w = fits.suit m k j r at in
    subst (λ (n : ℕ). IsRead (line_of_result script (placed_at n k j r))) (omega arith)
    (read (line_of_result script (placed_at m k j r)) (result_in_range script m k j r short (statement_there script m k j w.0 sound w.1) (printable_at report printable m k j r at))))) in
    let read_totals : IsRead t = read t (totals_in_range report printable.few (omega (arith, few_results script report.results sound fits.whole_results))) in
    let reads : AllOf IsRead (shown_lines script report) =
    AllOf-append IsRead of_entries (of_results ++ t ∷ []) read_entries (AllOf-append IsRead of_results (t ∷ []) read_results (read_totals, tt)) in
    let whole = whole_answer script es (length all) of_entries of_results t after refl refl refl in
    let answer = walked policies script [] 0 1 (shown_lines script report) reads clear whole.0 in
    ap (audited_from policies script [] 0) (transcript_read once policies script report ready)
    ∙ answer
    ∙ ap (λ n. Yes n (result_count (shown_lines script report))) (whole.1 ∙ length-shown script 0 report.entries)
    ∙ ap (λ n. Yes (length report.entries) n) (whole.2 ∙ length-placed 0 report.results)
