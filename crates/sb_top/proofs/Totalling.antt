-- The totals of a report that fits a script of calls with clean channels are those of the verdicts, and it has one result for each statement.
use Rattle.std.proofs.Common.{◌≡◌, ◌∙◌, refl, ap, sym, subst, ℕ, zero, suc, ◌+◌, ◌/◌, ◌<◌, ◌≤◌, Bool, true, false, cond, ◌&&◌, ◌==◌, true≢false, List, [], ◌∷◌, length, map, get_or, Option, Some, None, slice_get, arith}
use Rattle.std.specs.Prelude.{slice_index, nat_le, is_ok}
use Rattle.std.specs.List.{count_by, filter, list_all, sum_by}
use Rattle.std.proofs.lemmas.Bool.{and_parts}
use Rattle.std.proofs.lemmas.Bool.Decides.{nat_tests}
use Rattle.std.proofs.lemmas.List.Sums.{sum_by-cons}
use Rattle.std.proofs.lemmas.Option.{slice_get_within, slice_get-get_or}
use Rattle.sb_actor.specs.Fitting.{Suits}
use Rattle.sb_actor.specs.Moves.{is_clean}
use Rattle.sb_actor.specs.Places.{clean_channels, mark_at, or_none, statement_at, statements_of, threads_of}
use Rattle.sb_actor.specs.ThreadTable.{has_clean}
use Rattle.sb_block.specs.Copies.{mark_of}
use Rattle.sb_block.specs.Laws.{BlocksComeBack}
use Rattle.sb_book.specs.Decisions.{by_verdict, decision_of}
use Rattle.sb_book.specs.Histories.{IsEntry, IsLegalFrom, Setting, setting_of, space_after}
use Rattle.sb_book.specs.Readiness.{is_judged, is_ready}
use Rattle.sb_book.specs.Reports.{result_count, thread_count as results_in}
use Rattle.sb_book.specs.declared.decisions.Decision.{Decision}
use Rattle.sb_book.specs.declared.entries.Entry.{Entry}
use Rattle.sb_book.specs.declared.reports.Report.{Report}
use Rattle.sb_call.specs.declared.arguments.Arg.{Arg}
use Rattle.sb_call.specs.declared.tags.CallTag.{CallTag}
use Rattle.sb_core.specs.Fits.{Fits, by_entry, is_entry_of, results_at}
use Rattle.sb_core.specs.Results.{AreAllResults}
use Rattle.sb_core.specs.Runs.{most_results}
use Rattle.sb_kernel.specs.Namespaces.{Space}
use Rattle.sb_kernel.specs.Openings.{opened, opening}
use Rattle.sb_local.specs.Serial.{is_call}
use Rattle.sb_rule.specs.Verdicts.{policy_at, verdict_of}
use Rattle.sb_rule.specs.WellMade.{are_well_made}
use Rattle.sb_rule.specs.declared.actions.Action.TheVariants as action
use Rattle.sb_rule.specs.declared.policies.Policy.{Policy}
use Rattle.sb_rule.specs.declared.verdicts.Verdict.{Verdict}
use Rattle.sb_rule.specs.declared.verdicts.Verdict.TheVariants as verdict
use Rattle.sb_statements.specs.Actors.{thread_count}
use Rattle.sb_statements.specs.Soundness.{SoundStatements, SoundTargets, channels_of, is_sound, is_statement, is_thread}
use Rattle.sb_statements.specs.Units.{script_has_units, statement_has_units, target_has_units, thread_has_units}
use Rattle.sb_statements.specs.declared.results.StmtResult.{StmtResult}
use Rattle.sb_statements.specs.declared.scripts.Script.{Script}
use Rattle.sb_statements.specs.declared.scripts.TargetScript.{TargetScript}
use Rattle.sb_statements.specs.declared.statements.Statement.{Statement}
use Rattle.sb_statements.specs.declared.statements.Statement.TheVariants.{Call, Store, Exchange, Load, Wait}
use Rattle.sb_transcript.specs.Fields.{ended}
use Rattle.sb_transcript.specs.Totals.{count_of, is_denied, is_faked, is_performed, is_refused}
use Rattle.sb_transcript.specs.declared.read_lines.Line.TheVariants as Line
use Rattle.sb_top.specs.Totals.{AllClean, TotalsAreOfVerdicts, are_calls, decided, decided_in, is_decided, statement_count, statements_in}
use Rattle.sb_core.proofs.EntryCounts.{statements_are_few}
use Rattle.sb_top.proofs.Sums.{Placed, count_first, counted_once, same_both, same_upto, sum_list, tally, upto, within_length}
use Rattle.sb_top.proofs.Verdicts.{AreTrue, IsCall, both_true, leads, length_upto, some_same, some_true, thread_leads, true_at, true_upto}

-- ---- sums over the threads of a script

abbrev no_target : TargetScript
no_target = record { name = []; policy = 0; channels = 0; threads = [] }

threads_sum : (f : List Statement → ℕ) (threads : List (List Statement)) → sum_by f threads ≡ upto (length threads) (λ k. f (or_none (slice_get threads k)))
threads_sum f [] = refl
threads_sum f (statements ∷ threads) = sum_by-cons f statements threads ∙ ap (λ z. f statements + z) (threads_sum f threads)

targets_sum : (g : TargetScript → List Statement → ℕ) (targets : List TargetScript)
    → sum_by (λ target. sum_by (g target) target.threads) targets
    ≡ upto (length targets) (λ t. upto (thread_count (slice_get targets t)) (λ k. g (get_or targets t no_target) (or_none (slice_get (threads_of (slice_get targets t)) k))))
targets_sum g [] = refl
targets_sum g (target ∷ targets) =
    let first = threads_sum (g target) target.threads in
    let rest = targets_sum g targets in
    sum_by-cons (λ target. sum_by (g target) target.threads) target targets ∙ (λ i. first i + rest i)

-- ---- results

-- each thread has as many results as statements
as_many : (script : Script) (results : List (List (List StmtResult))) → AreAllResults script results → (t k : ℕ)
    → length (results_at results t k) ≡ length (statements_of script t k)
as_many script results all t k =
    let few = within_length (results_at results t k) (length (statements_of script t k))
    (λ i r e. let s = all.fit t k i r e in slice_get_within (statements_of script t k) i s.0 s.1) in
    let many = within_length (statements_of script t k) (length (results_at results t k))
    (λ i s e. let r = all.each t k i s e in slice_get_within (results_at results t k) i r.0 r.1) in
    omega (arith, few, many)

results_sum : (results : List (List (List StmtResult)))
    → result_count results ≡ upto (length results) (λ t. upto (length (get_or results t [])) (λ k. length (results_at results t k)))
results_sum results =
    sum_list results_in results []
    ∙ same_upto (length results) (λ t. results_in (get_or results t [])) (λ t. upto (length (get_or results t [])) (λ k. length (results_at results t k)))
    (λ t l. sum_list (λ rs. length rs) (get_or results t []) [])

pub results_are_statements : (script : Script) (results : List (List (List StmtResult))) → AreAllResults script results → result_count results ≡ statement_count script
results_are_statements script results all =
    results_sum results
    ∙ (same_both (length results) (length script.targets) (λ t. length (get_or results t [])) (λ t. thread_count (slice_get script.targets t))
    (λ t k. length (results_at results t k)) (λ t k. length (statements_of script t k)) all.targets (λ t l. all.threads t) (λ t k l m. as_many script results all t k)
    ∙ sym (targets_sum (λ target statements. length statements) script.targets))

-- a script that is ready is sound
pub ready_sound : (policies : List Policy) (script : Script) → is_ready policies script ≡ true → is_sound script ≡ true
ready_sound policies script h =
    (and_parts (is_sound script) (are_well_made policies)
    (and_parts (is_sound script && are_well_made policies) (list_all (is_judged (length policies)) script.targets)
    (and_parts (is_sound script && are_well_made policies && list_all (is_judged (length policies)) script.targets) (is_ok (opened script.start)) h).0).0).0

-- so a report that fits has few results
pub few_results : (policies : List Policy) (script : Script) (report : Report) → is_ready policies script ≡ true → Fits policies script report → result_count report.results ≤ most_results
few_results policies script report ready fits =
    let count = results_are_statements script report.results fits.whole_results in
    let few = statements_are_few script (ready_sound policies script ready) in
    omega (arith, count, few)

-- ---- what holds of each statement and of each entry

one_of_all : {X : Type 0} (p : X → Bool) (xs : List X) (i : ℕ) (x : X) → list_all p xs ≡ true → slice_get xs i ≡ Some x → p x ≡ true
one_of_all p [] i x h e = absurd (cc)
one_of_all p (y ∷ ys) zero x h e = subst (λ z. p z ≡ true) (some_same y x e) (and_parts (p y) (list_all p ys) h).0
one_of_all p (y ∷ ys) (suc i) x h e = one_of_all p ys i x (and_parts (p y) (list_all p ys) h).1 e

legal_entry : (s : Setting) (ns : Space) (es : List Entry) (i : ℕ) (e : Entry) → IsLegalFrom s ns es → slice_get es i ≡ Some e → (before : Space) × IsEntry s before e
legal_entry s ns [] i e h q = absurd (cc)
legal_entry s ns (x ∷ es) zero e h q = (ns, subst (IsEntry s ns) (some_same x e q) h.0)
legal_entry s ns (x ∷ es) (suc i) e h q = legal_entry s (space_after ns x.target x.decision) es i e h.1 q

channels_from : (targets : List TargetScript) (t : ℕ) → slice_index (map (λ target. target.channels) targets) t ≡ channels_of (slice_get targets t)
channels_from [] t = refl
channels_from (target ∷ targets) zero = refl
channels_from (target ∷ targets) (suc t) = channels_from targets t

mapped_length : {X Y : Type 0} (f : X → Y) (xs : List X) → length (map f xs) ≡ length xs
mapped_length f [] = refl
mapped_length f (x ∷ xs) = ap suc (mapped_length f xs)

mapped_policy : (policies : List Policy) (targets : List TargetScript) (t : ℕ) → t < length targets
    → policy_at (map (λ target. policy_at policies target.policy) targets) t ≡ policy_at policies (get_or targets t no_target).policy
mapped_policy policies [] t l = absurd (omega (arith, l))
mapped_policy policies (target ∷ targets) zero l = refl
mapped_policy policies (target ∷ targets) (suc t) l = mapped_policy policies targets t (omega (arith, l))

same_number : (a b : ℕ) → a ≡ b → (a == b) ≡ true
same_number a b e = grind (arith, nat_tests, e)

number_same : (a b : ℕ) → (a == b) ≡ true → a ≡ b
number_same a b e = grind (arith, nat_tests, e)

zero_more : (j : ℕ) → 0 + j ≡ j
zero_more j = omega arith

-- the decisions of entries are those of their copies
copies : (is_such : Decision → Bool) (p : Entry → Bool) (policy : Policy) (es : List Entry)
    → ((i : ℕ) (e : Entry) → slice_get es i ≡ Some e → p e ≡ true → e.decision ≡ decision_of policy e.taken)
    → count_by (λ e. is_such e.decision) (filter p es) ≡ count_by (leads is_such policy) (map by_entry (filter p es))
copies is_such p policy [] h = refl
copies is_such p policy (e ∷ es) h = by (p e) refl (copies is_such p policy es (λ i. h (suc i)))
  where
    by : (b : Bool) → p e ≡ b → count_by (λ e. is_such e.decision) (filter p es) ≡ count_by (leads is_such policy) (map by_entry (filter p es))
        → count_by (λ e. is_such e.decision) (cond b (e ∷ filter p es) (filter p es)) ≡ count_by (leads is_such policy) (map by_entry (cond b (e ∷ filter p es) (filter p es)))
    by true q rest =
        let same = h 0 e refl q in
        count_first (λ e. is_such e.decision) e (filter p es)
        ∙ ((λ i. tally (is_such (same i)) + rest i) ∙ sym (count_first (leads is_such policy) (by_entry e) (map by_entry (filter p es))))
    by false q rest = rest

-- a script of calls with clean channels, and a report that fits it
module _ (come : BlocksComeBack) (targets_law : SoundTargets) (statements_law : SoundStatements) (policies : List Policy) (script : Script) (report : Report)
    (ready : is_ready policies script ≡ true) (units : script_has_units script ≡ true) (calls : are_calls script ≡ true) (clean : AllClean script) (fits : Fits policies script report) where
  sound : is_sound script ≡ true
  sound = ready_sound policies script ready

  -- each statement is a call that encodes, with strings of units
  calls_all : (t k i : ℕ) (s : Statement) → statement_at script t k i ≡ Some s → IsCall s
  calls_all t k i s e = by_target (slice_get script.targets t) refl e
    where
      as_call : (z : Statement) → is_statement script.targets z ≡ true → is_call z ≡ true → statement_has_units z ≡ true → IsCall z
      as_call (Call tag args) encodes call made = (encodes, made)
      as_call (Store target word value) encodes call made = absurd (true≢false (sym call))
      as_call (Exchange target word from to) encodes call made = absurd (true≢false (sym call))
      as_call (Load target word) encodes call made = absurd (true≢false (sym call))
      as_call (Wait target word value most) encodes call made = absurd (true≢false (sym call))

      by_thread : (target : TargetScript) → slice_get script.targets t ≡ Some target → (o : Option (List Statement)) → slice_get target.threads k ≡ o
          → slice_get (or_none o) i ≡ Some s → IsCall s
      by_thread target f None g h = absurd (cc)
      by_thread target f (Some statements) g h =
          let its_threads = one_of_all (λ target. list_all (λ statements. list_all is_call statements) target.threads) script.targets t target calls f in
          let its_statements = one_of_all (λ statements. list_all is_call statements) target.threads k statements its_threads g in
          let target_units = one_of_all target_has_units script.targets t target units f in
          let thread_units = one_of_all thread_has_units target.threads k statements target_units g in
          as_call s (statements_law script t k i target statements s sound f g h) (one_of_all is_call statements i s its_statements h)
          (one_of_all statement_has_units statements i s thread_units h)

      by_target : (o : Option TargetScript) → slice_get script.targets t ≡ o → slice_get (or_none (slice_get (threads_of o) k)) i ≡ Some s → IsCall s
      by_target None f h = absurd (cc)
      by_target (Some target) f h = by_thread target f (slice_get target.threads k) refl h

  -- the channels of a target
  all_true : (t : ℕ) → AreTrue (clean_channels script t)
  all_true t = true_upto script clean t (channels_of (slice_get script.targets t))

  one_clean : (t : ℕ) → t < length script.targets → has_clean (clean_channels script t) ≡ true
  one_clean t l =
      let target = get_or script.targets t no_target in
      let there : slice_get script.targets t ≡ Some target = slice_get-get_or script.targets t no_target l in
      let its = targets_law script t target sound there in
      let few = nat_le (length target.threads) 4 in
      let all = and_parts (nat_le 1 target.channels && nat_le target.channels 8 && few) (list_all (is_thread script.targets) target.threads) its in
      let some = and_parts (nat_le 1 target.channels && nat_le target.channels 8) few all.0 in
      let low = (and_parts (nat_le 1 target.channels) (nat_le target.channels 8) some.0).0 in
      let positive : 0 < target.channels = grind (arith, nat_tests, low) in
      let count : channels_of (slice_get script.targets t) ≡ target.channels = ap channels_of there in
      let size = length_upto script t (channels_of (slice_get script.targets t)) in
      some_true (clean_channels script t) (all_true t) (omega (arith, positive, count, size))

  legal : (i : ℕ) (e : Entry) → slice_get report.entries i ≡ Some e → (before : Space) × IsEntry (setting_of policies script) before e
  legal i e q = legal_entry (setting_of policies script) (opening script.start) report.entries i e fits.history.legal q

  there : (e : Entry) (before : Space) → IsEntry (setting_of policies script) before e → e.target < length script.targets
  there e before x =
      let size = mapped_length (λ (target : TargetScript). policy_at policies target.policy) script.targets in
      let low = x.target_there in
      omega (arith, size, low)

  clean_entry : (e : Entry) (before : Space) → IsEntry (setting_of policies script) before e → is_clean (clean_channels script e.target) e.channel ≡ true
  clean_entry e before x =
      let count = channels_from script.targets e.target in
      let size = length_upto script e.target (channels_of (slice_get script.targets e.target)) in
      let low = x.channel_there in
      true_at (clean_channels script e.target) e.channel (all_true e.target) (omega (arith, count, size, low))

  -- each entry is one of exactly one thread
  only : (e : Entry) (k : ℕ) → mark_of e.taken / 65536 ≡ k + 1 → (u j : ℕ) → is_entry_of script u j e ≡ true → (u ≡ e.target) × (j ≡ k)
  only e k mark_is u j h =
      let parts = and_parts (e.target == u) (is_clean (clean_channels script u) e.channel && (mark_of e.taken / 65536 == j + 1)) h in
      let mark = (and_parts (is_clean (clean_channels script u) e.channel) (mark_of e.taken / 65536 == j + 1) parts.1).1 in
      let number : j + 1 ≡ k + 1 = sym (number_same (mark_of e.taken / 65536) (j + 1) mark) ∙ mark_is in
      (sym (number_same e.target u parts.0), omega (arith, number))

  placed : (i : ℕ) (e : Entry) → slice_get report.entries i ≡ Some e
      → Placed (λ t k e. is_entry_of script t k e) (length script.targets) (λ t. thread_count (slice_get script.targets t)) e
  placed i e q =
      let x = legal i e q in
      let here = clean_entry e x.0 x.1 in
      let own = fits.own_replies.others i e q here in
      let marked = same_number (mark_of e.taken / 65536) (own.0 + 1) own.2 in
      let test : is_entry_of script e.target own.0 e ≡ true =
      both_true (e.target == e.target) (is_clean (clean_channels script e.target) e.channel && (mark_of e.taken / 65536 == own.0 + 1)) (same_number e.target e.target refl)
      (both_true (is_clean (clean_channels script e.target) e.channel) (mark_of e.taken / 65536 == own.0 + 1) here marked) in
      (e.target, own.0, there e x.0 x.1, own.1, test, only e own.0 own.2)

  -- the decisions on a thread's calls are those that its statements lead to
  thread_counted : (is_such : Decision → Bool) (t k : ℕ) → t < length script.targets → k < thread_count (slice_get script.targets t)
      → count_by (λ e. is_such e.decision) (filter (is_entry_of script t k) report.entries)
      ≡ count_by (is_decided is_such (policy_at policies (get_or script.targets t no_target).policy)) (statements_of script t k)
  thread_counted is_such t k l m =
      let policy = policy_at policies (get_or script.targets t no_target).policy in
      copies is_such (is_entry_of script t k) policy report.entries (λ i e q h. decided_here policy refl i e q h)
      ∙ (ap (λ z. count_by (leads is_such policy) z) (fits.own_replies.own t k m)
      ∙ thread_leads come is_such policy script t k 0 (results_at report.results t k) (statements_of script t k) (all_true t) (one_clean t l)
      (as_many script report.results fits.whole_results t k) (λ j. ap (λ z. statement_at script t k z) (zero_more j)) (λ j s e. calls_all t k j s e)
      (λ j r e. let x = fits.suit t k j r e in (
        x.0,
        subst (λ z. statement_at script t k z ≡ Some x.0) (sym (zero_more j)) x.1,
        subst (λ z. Suits (clean_channels script t) (mark_at k z) x.0 r) (sym (zero_more j)) x.2,
      )))
    where
      decided_here : (policy : Policy) → policy ≡ policy_at policies (get_or script.targets t no_target).policy → (i : ℕ) (e : Entry) → slice_get report.entries i ≡ Some e
          → is_entry_of script t k e ≡ true → e.decision ≡ decision_of policy e.taken
      decided_here policy same i e q h =
          let x = legal i e q in
          let target : e.target ≡ t =
          number_same e.target t (and_parts (e.target == t) (is_clean (clean_channels script t) e.channel && (mark_of e.taken / 65536 == k + 1)) h).0 in
          let its : policy_at (setting_of policies script).policies e.target ≡ policy =
          ap (λ z. policy_at (setting_of policies script).policies z) target ∙ (mapped_policy policies script.targets t l ∙ sym same) in
          x.1.decided ∙ ap (λ z. decision_of z e.taken) its

  pub counted_by : (is_such : Decision → Bool) → count_of is_such report.entries ≡ decided is_such policies script
  counted_by is_such =
      counted_once (λ e. is_such e.decision) (λ t k e. is_entry_of script t k e) (length script.targets) (λ t. thread_count (slice_get script.targets t)) report.entries
      placed
      ∙ (same_both (length script.targets) (length script.targets) (λ t. thread_count (slice_get script.targets t)) (λ t. thread_count (slice_get script.targets t))
      (λ t k. count_by (λ e. is_such e.decision) (filter (is_entry_of script t k) report.entries))
      (λ t k. count_by (is_decided is_such (policy_at policies (get_or script.targets t no_target).policy)) (statements_of script t k))
      refl (λ t l. refl) (thread_counted is_such)
      ∙ sym (targets_sum (λ target statements. count_by (is_decided is_such (policy_at policies target.policy)) statements) script.targets))

-- ---- all decisions, and none

abbrev always : Decision → Bool
always d = true

count_all : (es : List Entry) → count_of always es ≡ length es
count_all [] = refl
count_all (e ∷ es) =
    let first = count_first (λ (e : Entry). always e.decision) e es in
    let rest = count_all es in
    omega (arith, first, rest)

all_decided : (policy : Policy) (statements : List Statement) → list_all is_call statements ≡ true → count_by (is_decided always policy) statements ≡ length statements
all_decided policy [] h = refl
all_decided policy (Call tag args ∷ more) h =
    let first = count_first (is_decided always policy) (Call tag args) more in
    let rest = all_decided policy more h in
    omega (arith, first, rest)
all_decided policy (Store target word value ∷ more) h = absurd (true≢false (sym h))
all_decided policy (Exchange target word from to ∷ more) h = absurd (true≢false (sym h))
all_decided policy (Load target word ∷ more) h = absurd (true≢false (sym h))
all_decided policy (Wait target word value most ∷ more) h = absurd (true≢false (sym h))

threads_decided : (policy : Policy) (threads : List (List Statement)) → list_all (λ statements. list_all is_call statements) threads ≡ true
    → sum_by (λ statements. count_by (is_decided always policy) statements) threads ≡ sum_by (λ statements. length statements) threads
threads_decided policy [] h = refl
threads_decided policy (statements ∷ threads) h =
    let parts = and_parts (list_all is_call statements) (list_all (λ statements. list_all is_call statements) threads) h in
    let first = all_decided policy statements parts.0 in
    let rest = threads_decided policy threads parts.1 in
    sum_by-cons (λ statements. count_by (is_decided always policy) statements) statements threads
    ∙ ((λ i. first i + rest i) ∙ sym (sum_by-cons (λ statements. length statements) statements threads))

targets_decided : (policies : List Policy) (targets : List TargetScript) → list_all (λ target. list_all (λ statements. list_all is_call statements) target.threads) targets ≡ true
    → sum_by (decided_in always policies) targets ≡ sum_by statements_in targets
targets_decided policies [] h = refl
targets_decided policies (target ∷ targets) h =
    let parts = and_parts (list_all (λ statements. list_all is_call statements) target.threads)
    (list_all (λ target. list_all (λ statements. list_all is_call statements) target.threads) targets) h in
    let first = threads_decided (policy_at policies target.policy) target.threads parts.0 in
    let rest = targets_decided policies targets parts.1 in
    sum_by-cons (decided_in always policies) target targets ∙ ((λ i. first i + rest i) ∙ sym (sum_by-cons statements_in target targets))

-- a verdict refuses no block
never_refused : (tag : CallTag) (args : List Arg) (v : Verdict) → is_refused (by_verdict tag args v) ≡ false
never_refused tag args verdict.NoRule = refl
never_refused tag args (verdict.Rule line action.Allow) = refl
never_refused tag args (verdict.Rule line action.ReadOnly) = refl
never_refused tag args (verdict.Rule line action.Fake) = refl
never_refused tag args (verdict.Rule line action.Deny) = refl
never_refused tag args (verdict.Rule line action.Alarm) = refl

not_decided : (policy : Policy) (s : Statement) → is_decided is_refused policy s ≡ false
not_decided policy (Call tag args) = never_refused tag args (verdict_of policy tag args)
not_decided policy (Store target word value) = refl
not_decided policy (Exchange target word from to) = refl
not_decided policy (Load target word) = refl
not_decided policy (Wait target word value most) = refl

sum_none : {X : Type 0} (f : X → ℕ) (xs : List X) → ((x : X) → f x ≡ 0) → sum_by f xs ≡ 0
sum_none f [] h = refl
sum_none f (x ∷ xs) h = sum_by-cons f x xs ∙ (λ i. h x i + sum_none f xs h i)

none_refused : (policies : List Policy) (script : Script) → decided is_refused policies script ≡ 0
none_refused policies script =
    sum_none (decided_in is_refused policies) script.targets
    (λ target. sum_none (λ statements. count_by (is_decided is_refused (policy_at policies target.policy)) statements) target.threads
    (λ statements. sum_none (λ s. tally (is_decided is_refused (policy_at policies target.policy) s)) statements
    (λ s. ap (λ b. tally b) (not_decided (policy_at policies target.policy) s))))

pub totals_are_of_verdicts : BlocksComeBack → SoundTargets → SoundStatements → TotalsAreOfVerdicts
totals_are_of_verdicts come targets_law statements_law policies script report known calls clean fits =
    let by = counted_by come targets_law statements_law policies script report known.ready known.units calls clean fits in
    let entries : length report.entries ≡ statement_count script = sym (count_all report.entries) ∙ (by always ∙ targets_decided policies script.targets calls) in
    let performed = by is_performed in
    let faked = by is_faked in
    let denied = by is_denied in
    let refused : count_of is_refused report.entries ≡ 0 = by is_refused ∙ none_refused policies script in
    let results = results_are_statements script report.results fits.whole_results in
    (λ i. ended (Line.Totals (record { entries = entries i; performed = performed i; faked = faked i; denied = denied i; refused = refused i; results = results i })))
