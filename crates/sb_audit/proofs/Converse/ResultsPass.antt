-- No clause fails at the line of a result of a report that fits.
use Rattle.std.proofs.Common.{◌≡◌, ◌≢◌, ◌∙◌, ℕ, ◌+◌, ◌*◌, ◌/◌, ◌<◌, ◌≤◌, zero, suc, Bool, true, false, not, cond, eqb, ltb, leb, ◌&&◌, ◌||◌, List, [], ◌∷◌, ◌++◌, map, length, None, Some, slice_get, slice_index_or, option_map, refl, ap, sym, subst, append_assoc, arith, length-append}
use Rattle.std.proofs.lemmas.Bool.{and_from, and_parts, eq-eqb, eqb-true, false≢true, le-leb, leb-true, ltb-true, ltb-false}
use Rattle.std.proofs.lemmas.List.{get_or_past, map-append}
use Rattle.std.proofs.lemmas.List.Sums.{sum_by-cons}
use Rattle.std.proofs.lemmas.Option.{none-some, slice_get-map}
use Rattle.std.specs.List.{list_all}
use Rattle.std.specs.Prelude.{⊤}
use Rattle.sb_actor.specs.Acts.{busy}
use Rattle.sb_actor.specs.Fitting.{Suits, SuitsCall}
use Rattle.sb_actor.specs.Moves as moves
use Rattle.sb_actor.specs.Places.{block_of, clean_channels, mark_at, or_none, statement_at, statements_of, threads_of}
use Rattle.sb_block.specs.Copies.{mark_of, whole}
use Rattle.sb_book.specs.Reports as reports
use Rattle.sb_book.specs.declared.entries.Entry.{Entry}
use Rattle.sb_call.specs.declared.arguments.Arg.{Arg}
use Rattle.sb_call.specs.declared.replies.Reply.{Reply}
use Rattle.sb_call.specs.declared.tags.CallTag.{CallTag}
use Rattle.sb_core.specs.Fits.{is_entry_of, results_at}
use Rattle.sb_core.specs.Results.{AreAllResults, result_at}
use Rattle.sb_transcript.specs.Printed.{shown_call, shown_entry, shown_reply, shown_result, shown_result_line}
use Rattle.sb_transcript.specs.declared.read_lines.EntryLine.{EntryLine}
use Rattle.sb_transcript.specs.declared.read_lines.Line.{Line}
use Rattle.sb_rule.specs.declared.policies.Policy.{Policy}
use Rattle.sb_statements.specs.Actors.{thread_count}
use Rattle.sb_statements.specs.Scripts.{is_clean}
use Rattle.sb_statements.specs.Limits.{most_channels, most_statements, most_targets, most_threads}
use Rattle.sb_statements.specs.Soundness.{channels_of, is_sound, is_statement, is_target as is_sound_target, is_thread, names_differ}
use Rattle.sb_statements.specs.declared.results.CallResult.{CallResult}
use Rattle.sb_statements.specs.declared.results.CallResult.TheVariants as call
use Rattle.sb_statements.specs.declared.results.StmtResult.{StmtResult}
use Rattle.sb_statements.specs.declared.results.StmtResult.TheVariants as result
use Rattle.sb_statements.specs.declared.scripts.Script.{Script}
use Rattle.sb_statements.specs.declared.scripts.TargetScript.{TargetScript}
use Rattle.sb_statements.specs.declared.statements.Statement.{Statement}
use Rattle.sb_statements.specs.declared.statements.Statement.TheVariants as statement
use Rattle.sb_transcript.specs.EntryLines.{target_name}
use Rattle.sb_audit.specs.Audited.{failing, result_clause, result_due}
use Rattle.sb_audit.specs.Before.{entries_of, has_totals, result_count, target_of}
use Rattle.sb_audit.specs.Clauses.{answers_call, fits_entries, has_entry, is_at, is_due, is_fitting, is_number, is_on_clean, is_reply_of, is_target, needs_entry, suits}
use Rattle.sb_audit.specs.Comparing.{same_reply}
use Rattle.sb_audit.specs.Spots.{due_spot, spot_at, spots}
use Rattle.sb_statements.specs.PlacedStatements.{placed_in_targets, placed_in_thread, placed_in_threads}
use Rattle.sb_audit.specs.declared.spots.Spot.{Spot}
use Rattle.sb_audit.proofs.Converse.Decided.{reply_same}
use Rattle.sb_audit.proofs.Converse.EntriesPass.{IsCommon, IsPlaced, passes, placed_channel}
use Rattle.sb_audit.proofs.Converse.Lists.{AllOf, AllOf-append, IsIn, any_true, at_seam, some_same}
use Rattle.sb_audit.proofs.Converse.Own.{entry_replies, replied, reply_has_entry}
use Rattle.sb_audit.proofs.Converse.Places.{clean_at, many_clean, sound_targets, statement_there, target_named}
use Rattle.sb_audit.proofs.Converse.ShownLines.{Placed, line_of_result, placed, placed_at, placed_target, placed_thread, shown_entries}
use Rattle.sb_audit.proofs.Converse.Walking.{IsBefore, IsClear, before_results}

-- ---- the order of the results is that of the statements

abbrev pub spot_of : Placed → Spot
spot_of x = x.spot

thread_spots : (t k i : ℕ) (ss : List Statement) (rs : List StmtResult) → length ss ≡ length rs → map spot_at (placed_in_thread t k i ss) ≡ map spot_of (placed_thread t k i rs)
thread_spots t k i [] [] h = refl
thread_spots t k i [] (r ∷ rs) h = absurd (omega arith)
thread_spots t k i (s ∷ ss) [] h = absurd (omega arith)
thread_spots t k i (s ∷ ss) (r ∷ rs) h = ap (λ l. record { target = t; thread = k; place = i } ∷ l) (thread_spots t k (i + 1) ss rs (omega arith))

-- as many results as statements, thread by thread
abbrev AreAlike : List (List Statement) → List (List StmtResult) → Type 0
AreAlike [] [] = ⊤
AreAlike [] (rs ∷ more) = ⊥
AreAlike (ss ∷ threads) [] = ⊥
AreAlike (ss ∷ threads) (rs ∷ more) = (length ss ≡ length rs) × AreAlike threads more

-- and target by target
abbrev AreAllAlike : List TargetScript → List (List (List StmtResult)) → Type 0
AreAllAlike [] [] = ⊤
AreAllAlike [] (threads ∷ more) = ⊥
AreAllAlike (target ∷ targets) [] = ⊥
AreAllAlike (target ∷ targets) (threads ∷ more) = AreAlike target.threads threads × AreAllAlike targets more

target_spots : (t k : ℕ) (threads : List (List Statement)) (results : List (List StmtResult)) → AreAlike threads results
    → map spot_at (placed_in_threads t k threads) ≡ map spot_of (placed_target t k results)
target_spots t k [] [] h = refl
target_spots t k [] (rs ∷ more) h = absurd h
target_spots t k (ss ∷ threads) [] h = absurd h
target_spots t k (ss ∷ threads) (rs ∷ more) h =
    map-append spot_at (placed_in_thread t k 0 ss) (placed_in_threads t (k + 1) threads)
    ∙ ap (λ l. l ++ map spot_at (placed_in_threads t (k + 1) threads)) (thread_spots t k 0 ss rs h.0)
    ∙ ap (λ l. map spot_of (placed_thread t k 0 rs) ++ l) (target_spots t (k + 1) threads more h.1)
    ∙ sym (map-append spot_of (placed_thread t k 0 rs) (placed_target t (k + 1) more))

all_spots : (t : ℕ) (targets : List TargetScript) (results : List (List (List StmtResult))) → AreAllAlike targets results
    → map spot_at (placed_in_targets t targets) ≡ map spot_of (placed t results)
all_spots t [] [] h = refl
all_spots t [] (threads ∷ more) h = absurd h
all_spots t (target ∷ targets) [] h = absurd h
all_spots t (target ∷ targets) (threads ∷ more) h =
    map-append spot_at (placed_in_threads t 0 target.threads) (placed_in_targets (t + 1) targets)
    ∙ ap (λ l. l ++ map spot_at (placed_in_targets (t + 1) targets)) (target_spots t 0 target.threads threads h.0)
    ∙ ap (λ l. map spot_of (placed_target t 0 threads) ++ l) (all_spots (t + 1) targets more h.1)
    ∙ sym (map-append spot_of (placed_target t 0 threads) (placed (t + 1) more))

same_length : {A B : Type 0} (xs : List A) (ys : List B) → ((i : ℕ) (x : A) → slice_get xs i ≡ Some x → (y : B) × (slice_get ys i ≡ Some y))
    → ((i : ℕ) (y : B) → slice_get ys i ≡ Some y → (x : A) × (slice_get xs i ≡ Some x)) → length xs ≡ length ys
same_length [] [] f g = refl
same_length [] (y ∷ ys) f g = let w = g 0 y refl in absurd (none-some w.0 w.1)
same_length (x ∷ xs) [] f g = let w = f 0 x refl in absurd (none-some w.0 w.1)
same_length (x ∷ xs) (y ∷ ys) f g = ap suc (same_length xs ys (λ i z e. f (suc i) z e) (λ i z e. g (suc i) z e))

alike : (threads : List (List Statement)) (results : List (List StmtResult)) → length results ≡ length threads
    → ((k : ℕ) → length (or_none (slice_get threads k)) ≡ length (slice_index_or results k [])) → AreAlike threads results
alike [] [] l h = tt
alike [] (rs ∷ more) l h = absurd (omega arith)
alike (ss ∷ threads) [] l h = absurd (omega arith)
alike (ss ∷ threads) (rs ∷ more) l h = (h 0, alike threads more (omega arith) (λ k. h (suc k)))

all_alike : (targets : List TargetScript) (results : List (List (List StmtResult))) → length results ≡ length targets
    → ((t : ℕ) → length (slice_index_or results t []) ≡ thread_count (slice_get targets t))
    → ((t k : ℕ) → length (or_none (slice_get (threads_of (slice_get targets t)) k)) ≡ length (slice_index_or (slice_index_or results t []) k []))
    → AreAllAlike targets results
all_alike [] [] l m h = tt
all_alike [] (threads ∷ more) l m h = absurd (omega arith)
all_alike (target ∷ targets) [] l m h = absurd (omega arith)
all_alike (target ∷ targets) (threads ∷ more) l m h =
    (alike target.threads threads (m 0) (λ k. h 0 k), all_alike targets more (omega arith) (λ t. m (suc t)) (λ t k. h (suc t) k))

whole_alike : (script : Script) (results : List (List (List StmtResult))) → AreAllResults script results → AreAllAlike script.targets results
whole_alike script results whole =
    all_alike script.targets results whole.targets whole.threads
    (λ t k. same_length (statements_of script t k) (results_at results t k) (λ i s e. whole.each t k i s e)
    (λ i r e. let w = whole.fit t k i r e in (w.0, w.1)))

pub spots_are : (script : Script) (results : List (List (List StmtResult))) → AreAllResults script results → spots script ≡ map spot_of (placed 0 results)
spots_are script results whole = all_spots 0 script.targets results (whole_alike script results whole)

-- ---- how many results there are

thread_bound : (targets : List TargetScript) (threads : List (List Statement)) (results : List (List StmtResult)) → AreAlike threads results
    → list_all (is_thread targets) threads ≡ true → reports.thread_count results ≤ length threads * 4096
thread_bound targets [] [] h l = omega arith
thread_bound targets [] (rs ∷ more) h l = absurd h
thread_bound targets (ss ∷ threads) [] h l = absurd h
thread_bound targets (ss ∷ threads) (rs ∷ more) h l =
    let parts = and_parts (is_thread targets ss) (list_all (is_thread targets) threads) l in
    let few : length ss ≤ 4096 = leb-true (length ss) 4096 (and_parts (leb (length ss) most_statements) (list_all (is_statement targets) ss) parts.0).0 in
    let rest = thread_bound targets threads more h.1 parts.1 in
    let count : reports.thread_count (rs ∷ more) ≡ length rs + reports.thread_count more = sum_by-cons (λ (results : List StmtResult). length results) rs more in
    omega (arith, few, rest, count, h.0)

few_threads : (targets : List TargetScript) (target : TargetScript) → is_sound_target targets target ≡ true
    → (length target.threads ≤ 4) × (list_all (is_thread targets) target.threads ≡ true)
few_threads targets target h =
    let sound = and_parts (leb 1 target.channels && leb target.channels most_channels && leb (length target.threads) most_threads) (list_all (is_thread targets) target.threads) h in
    (leb-true (length target.threads) 4 (and_parts (leb 1 target.channels && leb target.channels most_channels) (leb (length target.threads) most_threads) sound.0).1, sound.1)

target_bound : (all targets : List TargetScript) (results : List (List (List StmtResult))) → AreAllAlike targets results
    → list_all (is_sound_target all) targets ≡ true → reports.result_count results ≤ length targets * 16384
target_bound all [] [] h l = omega arith
target_bound all [] (threads ∷ more) h l = absurd h
target_bound all (target ∷ targets) [] h l = absurd h
target_bound all (target ∷ targets) (threads ∷ more) h l =
    let parts = and_parts (is_sound_target all target) (list_all (is_sound_target all) targets) l in
    let few = few_threads all target parts.0 in
    let first = thread_bound all target.threads threads h.0 few.1 in
    let rest = target_bound all targets more h.1 parts.1 in
    let count : reports.result_count (threads ∷ more) ≡ reports.thread_count threads + reports.result_count more = sum_by-cons reports.thread_count threads more in
    omega (arith, few.0, first, rest, count)

-- a sound script has at most 131,072 statements, and at most that many results
pub few_results : (script : Script) (results : List (List (List StmtResult))) → is_sound script ≡ true → AreAllResults script results
    → reports.result_count results ≤ 131072
few_results script results sound whole =
    let targets = sound_targets script sound in
    let parts = and_parts (leb (length script.targets) most_targets && names_differ script.targets) (list_all (is_sound_target script.targets) script.targets) targets in
    let many : length script.targets ≤ 8 = leb-true (length script.targets) 8 (and_parts (leb (length script.targets) most_targets) (names_differ script.targets) parts.0).0 in
    let bound = target_bound script.targets script.targets results (whole_alike script results whole) parts.1 in
    omega (arith, many, bound)

-- ---- each result, with its place

thread_all : (P : Placed → Type 0) (t k i : ℕ) (rs : List StmtResult) → ((j : ℕ) (r : StmtResult) → slice_get rs j ≡ Some r → P (placed_at t k (i + j) r))
    → AllOf P (placed_thread t k i rs)
thread_all P t k i [] h = tt
thread_all P t k i (r ∷ rs) h =
    let here : i + 0 ≡ i = omega arith in
    (subst (λ (n : ℕ). P (placed_at t k n r)) here (h 0 r refl), thread_all P t k (i + 1) rs (λ j s e. step j s (h (suc j) s e)))
  where
    step : (j : ℕ) (s : StmtResult) → P (placed_at t k (i + suc j) s) → P (placed_at t k (i + 1 + j) s)
    step j s p = let same : i + suc j ≡ i + 1 + j = omega arith in subst (λ (n : ℕ). P (placed_at t k n s)) same p

target_all : (P : Placed → Type 0) (t k : ℕ) (threads : List (List StmtResult))
    → ((m j : ℕ) (r : StmtResult) → slice_get (slice_index_or threads m []) j ≡ Some r → P (placed_at t (k + m) j r)) → AllOf P (placed_target t k threads)
target_all P t k [] h = tt
target_all P t k (rs ∷ more) h =
    AllOf-append P (placed_thread t k 0 rs) (placed_target t (k + 1) more) (thread_all P t k 0 rs (λ j r e. first j r (h 0 j r e)))
    (target_all P t (k + 1) more (λ m j r e. step m j r (h (suc m) j r e)))
  where
    first : (j : ℕ) (r : StmtResult) → P (placed_at t (k + 0) j r) → P (placed_at t k (0 + j) r)
    first j r p =
        let thread : k + 0 ≡ k = omega arith in
        let place : j ≡ 0 + j = omega arith in
        subst (λ (n : ℕ). P (placed_at t k n r)) place (subst (λ (n : ℕ). P (placed_at t n j r)) thread p)

    step : (m j : ℕ) (r : StmtResult) → P (placed_at t (k + suc m) j r) → P (placed_at t (k + 1 + m) j r)
    step m j r p = let same : k + suc m ≡ k + 1 + m = omega arith in subst (λ (n : ℕ). P (placed_at t n j r)) same p

pub all_placed : (P : Placed → Type 0) (t : ℕ) (results : List (List (List StmtResult)))
    → ((m k j : ℕ) (r : StmtResult) → result_at results m k j ≡ Some r → P (placed_at (t + m) k j r)) → AllOf P (placed t results)
all_placed P t [] h = tt
all_placed P t (threads ∷ more) h =
    AllOf-append P (placed_target t 0 threads) (placed (t + 1) more) (target_all P t 0 threads (λ k j r e. first k j r (h 0 k j r e)))
    (all_placed P (t + 1) more (λ m k j r e. step m k j r (h (suc m) k j r e)))
  where
    first : (k j : ℕ) (r : StmtResult) → P (placed_at (t + 0) k j r) → P (placed_at t (0 + k) j r)
    first k j r p =
        let target : t + 0 ≡ t = omega arith in
        let thread : k ≡ 0 + k = omega arith in
        subst (λ (n : ℕ). P (placed_at t n j r)) thread (subst (λ (n : ℕ). P (placed_at n k j r)) target p)

    step : (m k j : ℕ) (r : StmtResult) → P (placed_at (t + suc m) k j r) → P (placed_at (t + 1 + m) k j r)
    step m k j r p = let same : t + suc m ≡ t + 1 + m = omega arith in subst (λ (n : ℕ). P (placed_at n k j r)) same p

-- ---- 6. result: its kind

unclean : (script : Script) (t c : ℕ) → slice_index_or (clean_channels script t) c true ≡ false → is_clean script t c ≡ false
unclean script t c h = by (ltb c (channels_of (slice_get script.targets t))) refl
  where
    by : (b : Bool) → ltb c (channels_of (slice_get script.targets t)) ≡ b → is_clean script t c ≡ false
    by true e = sym (clean_at script t c true (ltb-true c (channels_of (slice_get script.targets t)) e)) ∙ h
    by false e =
        let past : length (clean_channels script t) ≤ c = omega (arith, many_clean script t, ltb-false c (channels_of (slice_get script.targets t)) e) in
        absurd (false≢true (sym h ∙ get_or_past (clean_channels script t) c true past))

differ : (a b : ℕ) → a ≢ b → not (eqb a b) ≡ true
differ a b h = by (eqb a b) refl
  where
    by : (t : Bool) → eqb a b ≡ t → not t ≡ true
    by true e = absurd (h (eqb-true a b e))
    by false e = refl

call_suits : (script : Script) (t mark : ℕ) (tag : CallTag) (args : List Arg) (r : CallResult) → SuitsCall (clean_channels script t) mark r
    → suits script t mark (shown_call r) (Some (statement.Call tag args)) ≡ true
call_suits script t mark tag args (call.Reply c reply) h = refl
call_suits script t mark tag args call.NoChannel h = ap not h
call_suits script t mark tag args (call.SendLost c found) h =
    and_from (not (is_clean script t c)) (not (eqb found busy)) (ap not (unclean script t c h.0)) (differ found busy h.1)
call_suits script t mark tag args (call.Foreign c other) h =
    and_from (not (is_clean script t c)) (not (eqb other mark)) (ap not (unclean script t c h.0)) (differ other mark h.1)
call_suits script t mark tag args (call.TimedOut c) h = ap not (unclean script t c h)

result_suits : (script : Script) (t mark : ℕ) (s : Statement) (r : StmtResult) → Suits (clean_channels script t) mark s r
    → suits script t mark (shown_result r) (Some s) ≡ true
result_suits script t mark (statement.Call tag args) (result.Call r) h = call_suits script t mark tag args r h
result_suits script t mark (statement.Call tag args) result.Stored h = absurd h
result_suits script t mark (statement.Call tag args) (result.Found n) h = absurd h
result_suits script t mark (statement.Call tag args) (result.Met loads) h = absurd h
result_suits script t mark (statement.Call tag args) (result.Unmet loads) h = absurd h
result_suits script t mark (statement.Store u w v) (result.Call r) h = absurd h
result_suits script t mark (statement.Store u w v) result.Stored h = refl
result_suits script t mark (statement.Store u w v) (result.Found n) h = absurd h
result_suits script t mark (statement.Store u w v) (result.Met loads) h = absurd h
result_suits script t mark (statement.Store u w v) (result.Unmet loads) h = absurd h
result_suits script t mark (statement.Exchange u w from to) (result.Call r) h = absurd h
result_suits script t mark (statement.Exchange u w from to) result.Stored h = absurd h
result_suits script t mark (statement.Exchange u w from to) (result.Found n) h = refl
result_suits script t mark (statement.Exchange u w from to) (result.Met loads) h = absurd h
result_suits script t mark (statement.Exchange u w from to) (result.Unmet loads) h = absurd h
result_suits script t mark (statement.Load u w) (result.Call r) h = absurd h
result_suits script t mark (statement.Load u w) result.Stored h = absurd h
result_suits script t mark (statement.Load u w) (result.Found n) h = refl
result_suits script t mark (statement.Load u w) (result.Met loads) h = absurd h
result_suits script t mark (statement.Load u w) (result.Unmet loads) h = absurd h
result_suits script t mark (statement.Wait u w v most) (result.Call r) h = absurd h
result_suits script t mark (statement.Wait u w v most) result.Stored h = absurd h
result_suits script t mark (statement.Wait u w v most) (result.Found n) h = absurd h
result_suits script t mark (statement.Wait u w v most) (result.Met loads) h =
    and_from (leb 1 loads) (leb loads most) (le-leb 1 loads h.0) (le-leb loads most h.1)
result_suits script t mark (statement.Wait u w v most) (result.Unmet loads) h = eq-eqb loads most h

-- ---- its entry

shown_in : (script : Script) (m : ℕ) (es : List Entry) (e : Entry) → IsIn e es → (j : ℕ) × IsIn (shown_entry script j e) (shown_entries script m es)
shown_in script m [] e (n, h) = absurd (none-some e h)
shown_in script m (d ∷ es) e (zero, h) = (m, (0, ap (λ x. Some (shown_entry script m x)) (some_same d e h)))
shown_in script m (d ∷ es) e (suc n, h) = let w = shown_in script (m + 1) es e (n, h) in (w.0, (suc w.1.0, w.1.1))

replied_same : (c d : ℕ) (a b : Reply) → c ≡ d → a ≡ b → is_reply_of (shown_result (replied c a)) d (shown_reply b) ≡ true
replied_same c d a b e f =
    and_from (eqb c d) (same_reply (shown_reply a) (shown_reply b)) (eq-eqb c d e) (reply_same (shown_reply a) (shown_reply b) (ap shown_reply f))

-- an entry of a target on a clean channel is so as its line shows
on_clean_shown : (script : Script) (t j : ℕ) (e : Entry) (target : TargetScript) → is_sound script ≡ true → slice_get script.targets e.target ≡ Some target
    → e.target ≡ t → is_clean script t e.channel ≡ true → is_on_clean script t (shown_entry script j e) ≡ true
on_clean_shown script t j e target sound there same clean =
    and_from (is_target script t (target_name script e.target)) (is_clean script t e.channel)
    (ap (is_number t) (target_named script e.target target sound there) ∙ eq-eqb e.target t same) clean

-- a reply on a clean channel has its entry
reply_shown_there : (script : Script) (entries : List Entry) (results : List (List (List StmtResult))) → IsCommon script entries results
    → (t k i c : ℕ) (reply : Reply) → result_at results t k i ≡ Some (replied c reply) → (tag : CallTag) (args : List Arg)
    → statement_at script t k i ≡ Some (statement.Call tag args) → c < length (clean_channels script t) → is_clean script t c ≡ true
    → has_entry script (shown_entries script 0 entries) t (mark_at k i) (shown_result (replied c reply)) ≡ true
reply_shown_there script entries results common t k i c reply at tag args is_call within clean =
    let there = statement_there script t k i (statement.Call tag args) common.sound is_call in
    let channel : c < channels_of (slice_get script.targets t) = omega (arith, within, many_clean script t) in
    let on_clean : moves.is_clean (clean_channels script t) c ≡ true = clean_at script t c false channel ∙ clean in
    let w = reply_has_entry script entries results common.replies t k i c reply there.thread at on_clean in
    let e = w.entry in
    let parts = and_parts (eqb e.target t) (moves.is_clean (clean_channels script t) e.channel && eqb (mark_of e.taken / 65536) (k + 1)) w.of_thread in
    let target : e.target ≡ t = eqb-true e.target t parts.0 in
    let is_there : slice_get script.targets e.target ≡ Some there.target = ap (slice_get script.targets) target ∙ there.is_target in
    let cleanly : is_clean script t e.channel ≡ true = ap (is_clean script t) w.on_channel ∙ clean in
    let mark : mark_of e.taken ≡ mark_at k i = ap mark_of w.taken_is ∙ ap (λ s. mark_of (whole (block_of (mark_at k i) s))) is_call in
    let seen = shown_in script 0 entries e w.is_there in
    any_true (λ (s : EntryLine). answers_call script t (mark_at k i) s && is_reply_of (shown_result (replied c reply)) s.channel s.reply) (shown_entries script 0 entries)
    (shown_entry script seen.0 e) seen.1
    (and_from (answers_call script t (mark_at k i) (shown_entry script seen.0 e)) (is_reply_of (shown_result (replied c reply)) e.channel (shown_reply e.reply))
    (and_from (is_on_clean script t (shown_entry script seen.0 e)) (eqb (mark_of e.taken) (mark_at k i))
    (on_clean_shown script t seen.0 e there.target common.sound is_there target cleanly) (eq-eqb (mark_of e.taken) (mark_at k i) mark))
    (replied_same c e.channel reply e.reply (sym w.on_channel) (sym w.replied_so)))

-- and is the reply of each entry with its mark
abbrev pub AreAllPlaced : Script → List Entry → Type 0
AreAllPlaced script entries = (n : ℕ) (e : Entry) → slice_get entries n ≡ Some e → IsPlaced script e

entry_fits : (script : Script) (entries : List Entry) (results : List (List (List StmtResult))) → IsCommon script entries results → AreAllPlaced script entries
    → (t k i : ℕ) (r : StmtResult) (s : Statement) → result_at results t k i ≡ Some r → statement_at script t k i ≡ Some s
    → (n j : ℕ) (e : Entry) → slice_get entries n ≡ Some e
    → (not (answers_call script t (mark_at k i) (shown_entry script j e)) || is_reply_of (shown_result r) e.channel (shown_reply e.reply)) ≡ true
entry_fits script entries results common placed t k i r s at is_statement n j e h = by (answers_call script t (mark_at k i) (shown_entry script j e)) refl
  where
    by : (b : Bool) → answers_call script t (mark_at k i) (shown_entry script j e) ≡ b → (not b || is_reply_of (shown_result r) e.channel (shown_reply e.reply)) ≡ true
    by true f =
        let there = statement_there script t k i s common.sound is_statement in
        let low = there.place in
        let parts = and_parts (is_on_clean script t (shown_entry script j e)) (eqb (mark_of e.taken) (mark_at k i)) f in
        let clean = and_parts (is_target script t (target_name script e.target)) (is_clean script t e.channel) parts.0 in
        let p = placed n e h in
        let target : e.target ≡ t = eqb-true e.target t (ap (is_number t) (sym (target_named script e.target p.target common.sound p.is_target)) ∙ clean.0) in
        let mark : mark_of e.taken ≡ mark_at k i = eqb-true (mark_of e.taken) (mark_at k i) parts.1 in
        let mine : mark_of e.taken / 65536 ≡ k + 1 = omega arith in
        let channel : e.channel < channels_of (slice_get script.targets t) = subst (λ u. e.channel < channels_of (slice_get script.targets u)) target (placed_channel script e p) in
        let on_clean : moves.is_clean (clean_channels script t) e.channel ≡ true = clean_at script t e.channel false channel ∙ clean.1 in
        let of_entry : is_entry_of script t k e ≡ true =
        and_from (eqb e.target t) (moves.is_clean (clean_channels script t) e.channel && eqb (mark_of e.taken / 65536) (k + 1)) (eq-eqb e.target t target)
        (and_from (moves.is_clean (clean_channels script t) e.channel) (eqb (mark_of e.taken / 65536) (k + 1)) on_clean (eq-eqb (mark_of e.taken / 65536) (k + 1) mine)) in
        let w = entry_replies script entries results common.replies common.suit t k there.thread n e h of_entry in
        let its_mark : mark_of e.taken ≡ mark_at k w.place = ap mark_of w.taken_is in
        let its_place = (statement_there script t k w.place (statement.Call w.tag w.args) common.sound w.statement_is).place in
        let same : w.place ≡ i = omega arith in
        let is : r ≡ replied e.channel e.reply = some_same r (replied e.channel e.reply) (sym at ∙ ap (result_at results t k) (sym same) ∙ w.result_is) in
        ap (λ x. is_reply_of (shown_result x) e.channel (shown_reply e.reply)) is ∙ replied_same e.channel e.channel e.reply e.reply refl refl
    by false f = refl

shown_all : (script : Script) (test : EntryLine → Bool) (m : ℕ) (es : List Entry) → ((n j : ℕ) (e : Entry) → slice_get es n ≡ Some e → test (shown_entry script j e) ≡ true)
    → list_all test (shown_entries script m es) ≡ true
shown_all script test m [] h = refl
shown_all script test m (e ∷ es) h =
    and_from (test (shown_entry script m e)) (list_all test (shown_entries script (m + 1) es)) (h 0 m e refl) (shown_all script test (m + 1) es (λ n j d g. h (suc n) j d g))

-- ---- the line of a result

entry_is_there : (script : Script) (entries : List Entry) (results : List (List (List StmtResult))) → IsCommon script entries results
    → (t k i : ℕ) (s : Statement) (r : StmtResult) → result_at results t k i ≡ Some r → statement_at script t k i ≡ Some s
    → Suits (clean_channels script t) (mark_at k i) s r
    → (not (needs_entry script t (shown_result r)) || has_entry script (shown_entries script 0 entries) t (mark_at k i) (shown_result r)) ≡ true
entry_is_there script entries results common t k i (statement.Call tag args) (result.Call (call.Reply c reply)) at is_call h = by (is_clean script t c) refl
  where
    by : (b : Bool) → is_clean script t c ≡ b
        → (not b || has_entry script (shown_entries script 0 entries) t (mark_at k i) (shown_result (replied c reply))) ≡ true
    by true e = reply_shown_there script entries results common t k i c reply at tag args is_call h.0 e
    by false e = refl
entry_is_there script entries results common t k i s (result.Call call.NoChannel) at is_call h = refl
entry_is_there script entries results common t k i s (result.Call (call.SendLost c found)) at is_call h = refl
entry_is_there script entries results common t k i s (result.Call (call.Foreign c other)) at is_call h = refl
entry_is_there script entries results common t k i s (result.Call (call.TimedOut c)) at is_call h = refl
entry_is_there script entries results common t k i s result.Stored at is_call h = refl
entry_is_there script entries results common t k i s (result.Found n) at is_call h = refl
entry_is_there script entries results common t k i s (result.Met loads) at is_call h = refl
entry_is_there script entries results common t k i s (result.Unmet loads) at is_call h = refl
entry_is_there script entries results common t k i (statement.Store u w v) (result.Call (call.Reply c reply)) at is_call h = absurd h
entry_is_there script entries results common t k i (statement.Exchange u w from to) (result.Call (call.Reply c reply)) at is_call h = absurd h
entry_is_there script entries results common t k i (statement.Load u w) (result.Call (call.Reply c reply)) at is_call h = absurd h
entry_is_there script entries results common t k i (statement.Wait u w v most) (result.Call (call.Reply c reply)) at is_call h = absurd h

-- what an audit asks of the line of a result
pub record IsRightResult (script : Script) (entries : List EntryLine) (x : Placed) : Type 0 where
  pub named : target_of script (target_name script x.spot.target) ≡ Some x.spot.target
  pub fitting : is_fitting script entries x.spot.target (shown_result_line script x.spot.target x.spot.thread x.spot.place x.result) ≡ true

pub right_result : (script : Script) (entries : List Entry) (results : List (List (List StmtResult))) → IsCommon script entries results → AreAllPlaced script entries
    → (t k i : ℕ) (r : StmtResult) → result_at results t k i ≡ Some r → IsRightResult script (shown_entries script 0 entries) (placed_at t k i r)
right_result script entries results common placed t k i r at =
    let w = common.suit t k i r at in
    let s = w.0 in
    let there = statement_there script t k i s common.sound w.1 in
    let seen = shown_entries script 0 entries in
    let kind : suits script t (mark_at k i) (shown_result r) (statement_at script t k i) ≡ true =
    ap (suits script t (mark_at k i) (shown_result r)) w.1 ∙ result_suits script t (mark_at k i) s r w.2 in
    let each = shown_all script (λ (e : EntryLine). not (answers_call script t (mark_at k i) e) || is_reply_of (shown_result r) e.channel e.reply) 0 entries
    (λ n j e h. entry_fits script entries results common placed t k i r s at w.1 n j e h) in
    record {
      named = target_named script t there.target common.sound there.is_target;
      fitting =
          and_from (suits script t (mark_at k i) (shown_result r) (statement_at script t k i)
          && (not (needs_entry script t (shown_result r)) || has_entry script seen t (mark_at k i) (shown_result r)))
          (fits_entries script seen t (mark_at k i) (shown_result r))
          (and_from (suits script t (mark_at k i) (shown_result r) (statement_at script t k i))
          (not (needs_entry script t (shown_result r)) || has_entry script seen t (mark_at k i) (shown_result r)) kind
          (entry_is_there script entries results common t k i s r at w.1 w.2)) each;
    }

result_is_due : (script : Script) (before : List Line) (es : List EntryLine) (n : ℕ) (x : Placed) → IsBefore before es n → due_spot script n ≡ Some x.spot
    → target_of script (target_name script x.spot.target) ≡ Some x.spot.target → is_due script before (line_of_result script x) ≡ true
result_is_due script before es n x b spot named =
    let r = shown_result_line script x.spot.target x.spot.thread x.spot.place x.result in
    let at : is_at script r (due_spot script (result_count before)) ≡ true =
    ap (λ m. is_at script r (due_spot script m)) b.results_are ∙ ap (is_at script r) spot
    ∙ and_from (is_target script x.spot.target r.target && eqb r.thread x.spot.thread) (eqb r.place x.spot.place)
    (and_from (is_target script x.spot.target r.target) (eqb r.thread x.spot.thread)
    (ap (is_number x.spot.target) named ∙ eq-eqb x.spot.target x.spot.target refl) (eq-eqb x.spot.thread x.spot.thread refl)) (eq-eqb x.spot.place x.spot.place refl) in
    and_from (not (has_totals before)) (is_at script r (due_spot script (result_count before))) (ap not b.no_totals) at

one_result : (policies : List Policy) (script : Script) (before : List Line) (es : List EntryLine) (n : ℕ) (x : Placed) → IsBefore before es n
    → due_spot script n ≡ Some x.spot → IsRightResult script es x → failing policies script before (line_of_result script x) ≡ None
one_result policies script before es n x b spot right =
    let r = shown_result_line script x.spot.target x.spot.thread x.spot.place x.result in
    passes policies script before (line_of_result script x) (result_is_due script before es n x b spot right.named)
    (ap (result_clause script (entries_of before) r) right.named
    ∙ ap (λ (l : List EntryLine). cond (is_fitting script l x.spot.target r) None (Some (result_due script l x.spot.target r))) b.entries_are
    ∙ ap (λ t. cond t None (Some (result_due script es x.spot.target r))) right.fitting)

-- ---- all results

pub results_pass : (policies : List Policy) (script : Script) (es : List EntryLine) (all : List Placed) → spots script ≡ map spot_of all
    → (done rest : List Placed) (before : List Line) → done ++ rest ≡ all → AllOf (IsRightResult script es) rest → IsBefore before es (length done)
    → IsClear policies script before (map (line_of_result script) rest)
results_pass policies script es all order done [] before seam right b = tt
results_pass policies script es all order done (x ∷ rest) before seam right b =
    let at : slice_get all (length done) ≡ Some x = subst (λ (l : List Placed). slice_get l (length done) ≡ Some x) seam (at_seam done x rest) in
    let spot : due_spot script (length done) ≡ Some x.spot =
    ap (λ (l : List Spot). slice_get l (length done)) order ∙ slice_get-map spot_of all (length done) ∙ ap (option_map spot_of) at in
    let longer : length done + 1 ≡ length (done ++ x ∷ []) = sym (length-append done (x ∷ [])) in
    let after = subst (λ n. IsBefore (before ++ line_of_result script x ∷ []) es n) longer (before_results script before es (length done) (x ∷ []) b) in (
      one_result policies script before es (length done) x b spot right.0,
      results_pass policies script es all order (done ++ x ∷ []) rest (before ++ line_of_result script x ∷ []) (append_assoc done (x ∷ []) rest ∙ seam) right.1 after,
    )
