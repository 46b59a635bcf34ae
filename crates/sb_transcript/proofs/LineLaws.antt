-- The lines of the transcript, one by one.
use Rattle.std.proofs.Common.{◌≡◌, ◌∙◌, ℕ, ◌+◌, ◌-◌, ◌≤◌, List, [], ◌∷◌, ◌++◌, length, take, get_or, refl, ap, sym, zero, suc, arith, length-append, append_assoc, zero-add}
use Rattle.std.proofs.lemmas.Option.{none-some}
use Rattle.std.specs.Prelude.{Some, option_map, slice_get}
use Rattle.sb_statements.specs.declared.results.StmtResult.{StmtResult}
use Rattle.sb_book.specs.declared.reports.Report.{Report}
use Rattle.sb_transcript.specs.Places.{result_at, results_before}
use Rattle.sb_book.specs.Reports.{thread_count, result_count}
use Rattle.sb_book.specs.declared.entries.Entry.{Entry}
use Rattle.sb_statements.specs.declared.scripts.Script.{Script}
use Rattle.sb_transcript.specs.EntryLines.{entry_line}
use Rattle.sb_transcript.specs.ResultLines.{result_line}
use Rattle.sb_transcript.specs.Totals.{totals_line}
use Rattle.sb_transcript.specs.Transcripts.{entry_lines, thread_lines, target_lines, result_lines, transcript_lines}
use Rattle.sb_transcript.specs.Laws.{LinesAreCounted, EntriesComeFirst, ResultsFollow, TotalsEnd}
use Rattle.sb_transcript.proofs.PlaceLaws.{thread_count-cons, result_count-cons}

length-entry_lines : (script : Script) (n : ℕ) (es : List Entry) → length (entry_lines script n es) ≡ length es
length-entry_lines script n [] = refl
length-entry_lines script n (e ∷ es) = ap suc (length-entry_lines script (n + 1) es)

length-thread_lines : (script : Script) (target thread place : ℕ) (rs : List StmtResult) → length (thread_lines script target thread place rs) ≡ length rs
length-thread_lines script target thread place [] = refl
length-thread_lines script target thread place (r ∷ rs) = ap suc (length-thread_lines script target thread (place + 1) rs)

length-target_lines : (script : Script) (target thread : ℕ) (threads : List (List StmtResult)) → length (target_lines script target thread threads) ≡ thread_count threads
length-target_lines script target thread [] = refl
length-target_lines script target thread (rs ∷ more) =
    rw (length-append, length-thread_lines script target thread 0 rs, length-target_lines script target (thread + 1) more, thread_count-cons rs more) refl

length-result_lines : (script : Script) (target : ℕ) (targets : List (List (List StmtResult))) → length (result_lines script target targets) ≡ result_count targets
length-result_lines script target [] = refl
length-result_lines script target (threads ∷ more) =
    rw (length-append, length-target_lines script target 0 threads, length-result_lines script (target + 1) more, result_count-cons threads more) refl

pub lines_are_counted : LinesAreCounted
lines_are_counted script report =
    rw (length-append, length-append, length-entry_lines script 0 report.entries, length-result_lines script 0 report.results) refl

-- what a list has at a place stays there when others are appended
get-front : {A : Type 0} (xs ys : List A) (n : ℕ) (x : A) → slice_get xs n ≡ Some x → slice_get (xs ++ ys) n ≡ Some x
get-front [] ys n x h = absurd (none-some x h)
get-front (y ∷ xs) ys zero x h = h
get-front (y ∷ xs) ys (suc n) x h = get-front xs ys n x h

-- and is found after those that are put before
get-behind : {A : Type 0} (xs ys : List A) (n : ℕ) → slice_get (xs ++ ys) (length xs + n) ≡ slice_get ys n
get-behind [] ys n = ap (slice_get ys) (zero-add n)
get-behind (x ∷ xs) ys n =
    let e : suc (length xs) + n ≡ suc (length xs + n) = omega arith in
    rw e (get-behind xs ys n)

-- the same before two lists
get-after : {A : Type 0} (xs ys zs : List A) (m n : ℕ) → length xs ≡ m → slice_get (xs ++ ys ++ zs) (m + n) ≡ slice_get (ys ++ zs) n
get-after xs ys zs m n count =
    ap (λ k. slice_get (xs ++ ys ++ zs) (k + n)) (sym count) ∙ ap (λ l. slice_get l (length xs + n)) (append_assoc xs ys zs) ∙ get-behind xs (ys ++ zs) n

get-entry_lines : (script : Script) (m : ℕ) (es : List Entry) (n : ℕ) → slice_get (entry_lines script m es) n ≡ option_map (entry_line script (m + n)) (slice_get es n)
get-entry_lines script m [] n = refl
get-entry_lines script m (e ∷ es) zero = ap (λ k. Some (entry_line script k e)) (omega arith)
get-entry_lines script m (e ∷ es) (suc n) =
    let same : m + 1 + n ≡ m + suc n = omega arith in
    get-entry_lines script (m + 1) es n ∙ ap (λ k. option_map (entry_line script k) (slice_get es n)) same

get-thread_lines : (script : Script) (target thread m : ℕ) (rs : List StmtResult) (n : ℕ)
    → slice_get (thread_lines script target thread m rs) n ≡ option_map (result_line script target thread (m + n)) (slice_get rs n)
get-thread_lines script target thread m [] n = refl
get-thread_lines script target thread m (r ∷ rs) zero = ap (λ k. Some (result_line script target thread k r)) (omega arith)
get-thread_lines script target thread m (r ∷ rs) (suc n) =
    let same : m + 1 + n ≡ m + suc n = omega arith in
    get-thread_lines script target thread (m + 1) rs n ∙ ap (λ k. option_map (result_line script target thread k) (slice_get rs n)) same

-- the line of a result of the threads, the first of which has the number m
get-target_lines : (script : Script) (target m : ℕ) (threads : List (List StmtResult)) (thread place : ℕ) (r : StmtResult) → slice_get (get_or threads thread []) place ≡ Some r
    → slice_get (target_lines script target m threads) (thread_count (take thread threads) + place) ≡ Some (result_line script target (m + thread) place r)
get-target_lines script target m [] thread place r h = absurd (none-some r h)
get-target_lines script target m (rs ∷ more) zero place r h =
    let first : slice_get (thread_lines script target m 0 rs) place ≡ Some (result_line script target m place r) =
    get-thread_lines script target m 0 rs place ∙ ap (λ k. option_map (result_line script target m k) (slice_get rs place)) (zero-add place) ∙ ap (option_map (result_line script target m place)) h in
    let start : thread_count (take zero (rs ∷ more)) + place ≡ place = omega arith in
    let same : m + zero ≡ m = omega arith in
    rw (start, same) (get-front (thread_lines script target m 0 rs) (target_lines script target (m + 1) more) place _ first)
get-target_lines script target m (rs ∷ more) (suc thread) place r h =
    let front = thread_lines script target m 0 rs in
    let later = get-target_lines script target (m + 1) more thread place r h in
    let start : thread_count (rs ∷ take thread more) + place ≡ length front + (thread_count (take thread more) + place) =
    omega (arith, thread_count-cons rs (take thread more), length-thread_lines script target m 0 rs) in
    let same : m + suc thread ≡ m + 1 + thread = omega arith in
    rw (start, same) (get-behind front (target_lines script target (m + 1) more) (thread_count (take thread more) + place) ∙ later)

-- the line of a result of the targets, the first of which has the number m
get-result_lines : (script : Script) (m : ℕ) (targets : List (List (List StmtResult))) (target thread place : ℕ) (r : StmtResult) → result_at targets target thread place ≡ Some r
    → slice_get (result_lines script m targets) (results_before targets target thread place) ≡ Some (result_line script (m + target) thread place r)
get-result_lines script m [] target thread place r h = absurd (none-some r h)
get-result_lines script m (threads ∷ more) zero thread place r h =
    let first : slice_get (target_lines script m 0 threads) (thread_count (take thread threads) + place) ≡ Some (result_line script m thread place r) =
    get-target_lines script m 0 threads thread place r h ∙ ap (λ k. Some (result_line script m k place r)) (zero-add thread) in
    let start : results_before (threads ∷ more) zero thread place ≡ thread_count (take thread threads) + place = omega arith in
    let same : m + zero ≡ m = omega arith in
    rw (start, same) (get-front (target_lines script m 0 threads) (result_lines script (m + 1) more) (thread_count (take thread threads) + place) _ first)
get-result_lines script m (threads ∷ more) (suc target) thread place r h =
    let front = target_lines script m 0 threads in
    let later = get-result_lines script (m + 1) more target thread place r h in
    let start : results_before (threads ∷ more) (suc target) thread place ≡ length front + results_before more target thread place =
    omega (arith, result_count-cons threads (take target more), length-target_lines script m 0 threads) in
    let same : m + suc target ≡ m + 1 + target = omega arith in
    rw (start, same) (get-behind front (result_lines script (m + 1) more) (results_before more target thread place) ∙ later)

pub entries_come_first : EntriesComeFirst
entries_come_first script report n entry h =
    let line : slice_get (entry_lines script 0 report.entries) n ≡ Some (entry_line script n entry) =
    get-entry_lines script 0 report.entries n ∙ ap (λ k. option_map (entry_line script k) (slice_get report.entries n)) (zero-add n) ∙ ap (option_map (entry_line script n)) h in
    get-front (entry_lines script 0 report.entries ++ result_lines script 0 report.results) (totals_line report ∷ []) n _
    (get-front (entry_lines script 0 report.entries) (result_lines script 0 report.results) n _ line)

-- what comes after the lines of entries
behind_entries : (script : Script) (report : Report) (n : ℕ) → slice_get (transcript_lines script report) (length report.entries + n) ≡ slice_get (result_lines script 0 report.results ++ totals_line report ∷ []) n
behind_entries script report n =
    get-after (entry_lines script 0 report.entries) (result_lines script 0 report.results) (totals_line report ∷ []) (length report.entries) n (length-entry_lines script 0 report.entries)

pub results_follow : ResultsFollow
results_follow script report target thread place result h =
    let line : slice_get (result_lines script 0 report.results) (results_before report.results target thread place) ≡ Some (result_line script target thread place result) =
    get-result_lines script 0 report.results target thread place result h ∙ ap (λ k. Some (result_line script k thread place result)) (zero-add target) in
    behind_entries script report (results_before report.results target thread place)
    ∙ get-front (result_lines script 0 report.results) (totals_line report ∷ []) (results_before report.results target thread place) _ line

-- the same for the number of the line
pub result_line_at : (script : Script) (report : Report) (n target thread place : ℕ) (result : StmtResult) → length report.entries ≤ n
    → result_at report.results target thread place ≡ Some result → results_before report.results target thread place ≡ n - length report.entries
    → slice_get (transcript_lines script report) n ≡ Some (result_line script target thread place result)
result_line_at script report n target thread place result past there before =
    let at : length report.entries + results_before report.results target thread place ≡ n = omega arith in
    ap (slice_get (transcript_lines script report)) (sym at) ∙ results_follow script report target thread place result there

pub totals_end : TotalsEnd
totals_end script report =
    let count : result_count report.results ≡ length (result_lines script 0 report.results) + 0 = omega (arith, length-result_lines script 0 report.results) in
    behind_entries script report (result_count report.results)
    ∙ ap (slice_get (result_lines script 0 report.results ++ totals_line report ∷ [])) count
    ∙ get-behind (result_lines script 0 report.results) (totals_line report ∷ []) 0
