-- A run has at most as many entries as its script has statements: what each channel has at most is summed over all channels.
use Rattle.std.proofs.Common.{◌≡◌, ◌≢◌, ◌∙◌, refl, ap, subst, ℕ, zero, suc, ◌+◌, ◌*◌, ◌<◌, ◌≤◌, Bool, true, false, ◌&&◌, ◌==◌, List, [], ◌∷◌, length, map, get_or, Option, None, Some, slice_get, lit≤, arith, sym}
use Rattle.std.proofs.lemmas.List.Sums.{sum_by-le}
use Rattle.std.specs.List.{sum_by}
use Rattle.sb_actor.specs.ThreadStages.{Try, Fetch}
use Rattle.sb_statements.specs.declared.results.CallResult.TheVariants as call
use Rattle.sb_statements.specs.declared.results.StmtResult.TheVariants as result
use Rattle.sb_statements.specs.declared.statements.Statement.TheVariants as statement
use Rattle.sb_core.specs.Runs.{ended}
use Rattle.sb_core.proofs.Belonging.{leads_of, of_end, of_run, of_runs}
use Rattle.sb_core.proofs.Reaching.{good_on}
use Rattle.sb_core.proofs.Tallying.{worlds_are_few}
use Rattle.sb_core.proofs.Numbers.{itself, self_same, apart}
use Rattle.sb_core.proofs.Existence.{channels_from}
use Rattle.std.proofs.lemmas.List.Elements.{All-from_get_or}
use Rattle.sb_core.proofs.Names.{Abandon, and_parts, AnswersKeepHistories, CallResult, channels_of, drained, ends_call, ends_on, entries_on, Entry, first_unfinished, Free, has_sent, is_call, is_calling, is_statement, is_target, is_thread, IsAtStatement, IsHistory, IsLegalFrom, IsRunning, IsRunOf, IsWorld, length-map, list_all, nat_le, nat_tests, no_run, one_if, opening, or_none, played, policy_at, run_at, RunAt, RunsHaveFewEntries, Script, Setting, setting_of, slice_get-get_or, slice_index, SoundStatements, SoundTargets, Space, space_after, Statement, statement_at, statement_count, statements_in, statements_of, StatementsAreFew, StmtResult, sum_by-cons, tally_all, tally_from, tally_of, tally_row, tally_so_far, TargetScript, thread_count, threads_at, threads_of, ThreadStage, Wait, WorldAt, WorldsHaveFewEntries, ℕ_discrete}
use Rattle.sb_core.proofs.Sets.{one_of_all}
use Rattle.sb_core.proofs.Bounds.{sound_targets, target_threads}

-- the sum of f over the numbers below n
abbrev upto : ℕ → (ℕ → ℕ) → ℕ
upto zero f = 0
upto (suc n) f = upto n f + f n

most_upto : (n : ℕ) (f g : ℕ → ℕ) → ((i : ℕ) → i < n → f i ≤ g i) → upto n f ≤ upto n g
most_upto zero f g h = lit≤ tt
most_upto (suc n) f g h =
    let rest = most_upto n f g (λ i l. h i (omega (arith, l))) in
    let last = h n (omega arith) in
    omega (arith, rest, last)

both_upto : (n : ℕ) (f g : ℕ → ℕ) → upto n (λ i. f i + g i) ≡ upto n f + upto n g
both_upto zero f g = refl
both_upto (suc n) f g = let rest = both_upto n f g in omega (arith, rest)

none_upto : (n : ℕ) (f : ℕ → ℕ) → ((i : ℕ) → i < n → f i ≡ 0) → upto n f ≡ 0
none_upto zero f h = refl
none_upto (suc n) f h =
    let rest = none_upto n f (λ i l. h i (omega (arith, l))) in
    let last = h n (omega arith) in
    omega (arith, rest, last)

in_upto : (n i : ℕ) (f : ℕ → ℕ) → i < n → f i ≤ upto n f
in_upto zero i f l = absurd (omega (arith, l))
in_upto (suc n) i f l = by_place (ℕ_discrete i n) (λ m. in_upto n i f m)
  where
    by_place : Dec (i ≡ n) → (i < n → f i ≤ upto n f) → f i ≤ upto n f + f n
    by_place (yes e) rest = let same : f i ≡ f n = ap f e in omega (arith, same)
    by_place (no ne) rest = let before = rest (omega (arith, l, ne)) in omega (arith, before)

abbrev places : ℕ → (ℕ → ℕ) → (ℕ → ℕ → ℕ) → ℕ
places n many f = upto n (λ t. upto (many t) (f t))

at_most_one : (b : Bool) → one_if b ≤ 1
at_most_one true = lit≤ tt
at_most_one false = lit≤ tt

no_hit : (n u : ℕ) → n ≤ u → upto n (λ i. one_if (u == i)) ≡ 0
no_hit n u l = none_upto n (λ i. one_if (u == i)) (λ i m. ap one_if (apart u i (λ e. absurd (omega (arith, l, m, e)))))

one_hit : (n u : ℕ) → upto n (λ i. one_if (u == i)) ≤ 1
one_hit zero u = lit≤ tt
one_hit (suc n) u = by_place (ℕ_discrete u n) (one_hit n u)
  where
    by_place : Dec (u ≡ n) → upto n (λ i. one_if (u == i)) ≤ 1 → upto n (λ i. one_if (u == i)) + one_if (u == n) ≤ 1
    by_place (yes e) before =
        let rest = no_hit n u (omega (arith, e)) in
        let last = at_most_one (u == n) in
        omega (arith, rest, last)
    by_place (no ne) before =
        let last : one_if (u == n) ≡ 0 = ap one_if (apart u n (λ e. ne (sym e))) in
        omega (arith, before, last)

hit_if : (n d : ℕ) (b : Bool) → upto n (λ c. one_if (b && d == c)) ≤ one_if b
hit_if n d true = one_hit n d
hit_if n d false = let none = none_upto n (λ c. one_if (false && d == c)) (λ c l. refl) in omega (arith, none)

module _ (n : ℕ) (many : ℕ → ℕ) where
  most_places : (f g : ℕ → ℕ → ℕ) → ((t c : ℕ) → t < n → c < many t → f t c ≤ g t c) → places n many f ≤ places n many g
  most_places f g h =
      most_upto n (λ t. upto (many t) (f t)) (λ t. upto (many t) (g t)) (λ t l. most_upto (many t) (f t) (g t) (λ c m. h t c l m))

  both_places : (f g : ℕ → ℕ → ℕ) → places n many (λ t c. f t c + g t c) ≡ places n many f + places n many g
  both_places f g =
      (λ i. upto n (λ t. both_upto (many t) (f t) (g t) i)) ∙ both_upto n (λ t. upto (many t) (f t)) (λ t. upto (many t) (g t))

  no_places : (f : ℕ → ℕ → ℕ) → ((t c : ℕ) → f t c ≡ 0) → places n many f ≡ 0
  no_places f h = none_upto n (λ t. upto (many t) (f t)) (λ t l. none_upto (many t) (f t) (λ c m. h t c))

  -- at most one channel is this one
  one_place : (u d : ℕ) → places n many (λ t c. one_if (u == t && d == c)) ≤ 1
  one_place u d =
      let inner = most_upto n (λ t. upto (many t) (λ c. one_if (u == t && d == c))) (λ t. one_if (u == t)) (λ t l. hit_if (many t) d (u == t)) in
      let outer = one_hit n u in
      omega (arith, inner, outer)

  -- and if it is there, one is
  its_place : (u d : ℕ) → u < n → d < many u → 1 ≤ places n many (λ t c. one_if (u == t && d == c))
  its_place u d l m =
      let one : one_if (u == u && d == d) ≡ 1 = rw (self_same u, self_same d) refl in
      let inner = in_upto (many u) d (λ c. one_if (u == u && d == c)) m in
      let outer = in_upto n u (λ t. upto (many t) (λ c. one_if (u == t && d == c))) l in
      omega (arith, one, inner, outer)
      -- each entry of a legal history is on one of the channels

  entries_at : (s : Setting) → length s.policies ≡ n → ((t : ℕ) → slice_index s.channels t ≡ many t) → (ns : Space) (es : List Entry) → IsLegalFrom s ns es
      → length es ≤ places n many (λ t c. entries_on t c es)
  entries_at s e f ns [] h = omega arith
  entries_at s e f ns (x ∷ es) h =
      let first = its_place x.target x.channel (subst (λ z. x.target < z) e h.0.target_there) (subst (λ z. x.channel < z) (f x.target) h.0.channel_there) in
      let rest = entries_at s e f (space_after ns x.target x.decision) es h.1 in
      let more : places n many (λ t c. entries_on t c (x ∷ es))
      ≡ places n many (λ t c. one_if (x.target == t && x.channel == c)) + places n many (λ t c. entries_on t c es) =
      (λ i. places n many (λ t c. sum_by-cons (λ (y : Entry). one_if (y.target == t && y.channel == c)) x es i))
      ∙ both_places (λ t c. one_if (x.target == t && x.channel == c)) (λ t c. entries_on t c es) in
      omega (arith, first, rest, more)

-- it counts for one channel at most
abbrev IsAtOne : (ℕ → ℕ → ℕ) → Type 0
IsAtOne f = (u : ℕ) × (d : ℕ) × ((t c : ℕ) → f t c ≤ one_if (u == t && d == c))

no_call : (a : Bool) → one_if (a && false) ≡ 0
no_call true = refl
no_call false = refl

none_and : (a b : Bool) → one_if (a && false) ≤ one_if b
none_and a b = let none = no_call a in omega (arith, none)

with_none : (a m : ℕ) → a ≤ m → a + 0 ≤ m
with_none a m l = omega (arith, l)

-- tests of a statement that makes a channel ready
readies : (x a b d e : Bool) → one_if (x && false) + one_if ((a && (b && d)) && e) ≤ one_if (a && b)
readies x a b d e = let none = no_call x in let low = ready_one a b d e in omega (arith, none, low)
  where
    ready_one : (a b d e : Bool) → one_if ((a && (b && d)) && e) ≤ one_if (a && b)
    ready_one true true true e = at_most_one e
    ready_one true true false e = lit≤ tt
    ready_one true false d e = lit≤ tt
    ready_one false b d e = lit≤ tt

call_at_one : (u : ℕ) (r : CallResult) → IsAtOne (λ t c. one_if (u == t && ends_call c r))
call_at_one u (call.Reply d reply) = (u, d, λ t c. itself (one_if (u == t && d == c)))
call_at_one u (call.Foreign d mark) = (u, d, λ t c. itself (one_if (u == t && d == c)))
call_at_one u (call.TimedOut d) = (u, d, λ t c. itself (one_if (u == t && d == c)))
call_at_one u _ = (0, 0, λ t c. none_and (u == t) (0 == t && 0 == c))

-- a result of a statement that made no channel ready
end_at_one : (u : ℕ) (r : StmtResult) → IsAtOne (λ t c. one_if (u == t && ends_on c r) + 0)
end_at_one u (result.Call r) = let x = call_at_one u r in (x.0, x.1, λ t c. with_none _ _ (x.2 t c))
end_at_one u _ = (0, 0, λ t c. with_none _ _ (none_and (u == t) (0 == t && 0 == c)))

result_at_one : (u : ℕ) (o : Option Statement) (r : StmtResult) → IsAtOne (λ t c. tally_of t c u o r)
result_at_one u (Some (statement.Store v word value)) (result.Call r) = end_at_one u (result.Call r)
result_at_one u (Some (statement.Store v word value)) result.Stored =
    (v, word.channel, λ t c. readies (u == t) (v == t) (word.channel == c) (word.at == 0) (value == 3))
result_at_one u (Some (statement.Store v word value)) (result.Found n) = end_at_one u (result.Found n)
result_at_one u (Some (statement.Store v word value)) (result.Met loads) = end_at_one u (result.Met loads)
result_at_one u (Some (statement.Store v word value)) (result.Unmet loads) = end_at_one u (result.Unmet loads)
result_at_one u (Some (statement.Exchange v word from to)) (result.Call r) = end_at_one u (result.Call r)
result_at_one u (Some (statement.Exchange v word from to)) result.Stored = end_at_one u result.Stored
result_at_one u (Some (statement.Exchange v word from to)) (result.Found n) =
    (v, word.channel, λ t c. readies (u == t) (v == t) (word.channel == c) (word.at == 0) (n == from && to == 3))
result_at_one u (Some (statement.Exchange v word from to)) (result.Met loads) = end_at_one u (result.Met loads)
result_at_one u (Some (statement.Exchange v word from to)) (result.Unmet loads) = end_at_one u (result.Unmet loads)
result_at_one u _ r = end_at_one u r

-- 1 if the present call was handed over
abbrev handed : ThreadStage → ℕ
handed (Wait d loads) = 1
handed (Fetch d words) = 1
handed (Free d words) = 1
handed (Abandon d) = 1
handed _ = 0

-- what a thread counts for at most: its results, and its present call
abbrev weight : RunAt → ℕ
weight x = handed x.thread.stage + length x.results

handed_in : (stage : ThreadStage) → handed stage ≤ one_if (is_calling stage)
handed_in (Try d rounds all_abandoned) = lit≤ tt
handed_in _ = lit≤ tt

module _ (n : ℕ) (many : ℕ → ℕ) (script : Script) where
  at_one : (f : ℕ → ℕ → ℕ) → IsAtOne f → places n many f ≤ 1
  at_one f x =
      let below = most_places n many f (λ t c. one_if (x.0 == t && x.1 == c)) (λ t c l m. x.2 t c) in
      let one = one_place n many x.0 x.1 in
      omega (arith, below, one)

  results_once : (u k i : ℕ) (results : List StmtResult) → places n many (λ t c. tally_from script t c u k i results) ≤ length results
  results_once u k i [] =
      let none : places n many (λ t c. tally_from script t c u k i []) ≡ 0 = no_places n many (λ t c. tally_from script t c u k i []) (λ t c. refl) in
      omega (arith, none)
  results_once u k i (r ∷ results) =
      let first = at_one (λ t c. tally_of t c u (statement_at script u k i) r) (result_at_one u (statement_at script u k i) r) in
      let rest = results_once u k (i + 1) results in
      let both : places n many (λ t c. tally_from script t c u k i (r ∷ results))
      ≡ places n many (λ t c. tally_of t c u (statement_at script u k i) r) + places n many (λ t c. tally_from script t c u k (i + 1) results) =
      both_places n many (λ t c. tally_of t c u (statement_at script u k i) r) (λ t c. tally_from script t c u k (i + 1) results) in
      omega (arith, first, rest, both)

  no_sent : (u : ℕ) → places n many (λ t c. one_if (u == t && false)) ≤ 0
  no_sent u = let none = no_places n many (λ t c. one_if (u == t && false)) (λ t c. no_call (u == t)) in omega (arith, none)

  call_once : (u : ℕ) (stage : ThreadStage) → places n many (λ t c. one_if (u == t && has_sent c stage)) ≤ handed stage
  call_once u (Wait d loads) = one_place n many u d
  call_once u (Fetch d words) = one_place n many u d
  call_once u (Free d words) = one_place n many u d
  call_once u (Abandon d) = one_place n many u d
  call_once u _ = no_sent u

  run_once : (x : RunAt) → places n many (λ t c. tally_so_far script t c x) ≤ weight x
  run_once x =
      let sent = call_once x.thread.target x.thread.stage in
      let results = results_once x.thread.target x.thread.thread 0 x.results in
      let both : places n many (λ t c. tally_so_far script t c x)
      ≡ places n many (λ t c. one_if (x.thread.target == t && has_sent c x.thread.stage)) + places n many (λ t c. tally_from script t c x.thread.target x.thread.thread 0 x.results) =
      both_places n many (λ t c. one_if (x.thread.target == t && has_sent c x.thread.stage)) (λ t c. tally_from script t c x.thread.target x.thread.thread 0 x.results) in
      omega (arith, sent, results, both)

  row_once : (runs : List RunAt) → places n many (λ t c. tally_row script t c runs) ≤ sum_by weight runs
  row_once [] =
      let none : places n many (λ t c. tally_row script t c []) ≡ 0 = no_places n many (λ t c. tally_row script t c []) (λ t c. refl) in
      omega (arith, none)
  row_once (x ∷ runs) =
      let first = run_once x in
      let rest = row_once runs in
      let both : places n many (λ t c. tally_row script t c (x ∷ runs)) ≡ places n many (λ t c. tally_so_far script t c x) + places n many (λ t c. tally_row script t c runs) =
      (λ i. places n many (λ t c. sum_by-cons (tally_so_far script t c) x runs i)) ∙ both_places n many (λ t c. tally_so_far script t c x) (λ t c. tally_row script t c runs) in
      let sum = sum_by-cons weight x runs in
      omega (arith, first, rest, both, sum)

  all_once : (threads : List (List RunAt)) → places n many (λ t c. tally_all script t c threads) ≤ sum_by (λ runs. sum_by weight runs) threads
  all_once [] =
      let none : places n many (λ t c. tally_all script t c []) ≡ 0 = no_places n many (λ t c. tally_all script t c []) (λ t c. refl) in
      omega (arith, none)
  all_once (runs ∷ threads) =
      let first = row_once runs in
      let rest = all_once threads in
      let both : places n many (λ t c. tally_all script t c (runs ∷ threads)) ≡ places n many (λ t c. tally_row script t c runs) + places n many (λ t c. tally_all script t c threads) =
      (λ i. places n many (λ t c. sum_by-cons (tally_row script t c) runs threads i)) ∙ both_places n many (λ t c. tally_row script t c runs) (λ t c. tally_all script t c threads) in
      let sum = sum_by-cons (λ (rs : List RunAt). sum_by weight rs) runs threads in
      omega (arith, first, rest, both, sum)

-- of two lists of one length, what each element adds is at most what the other's at its place does
sum_below : {X Y : Type 0} (f : X → ℕ) (g : Y → ℕ) (xs : List X) (ys : List Y) (dx : X) (dy : Y) → length xs ≡ length ys
    → ((i : ℕ) → i < length xs → f (get_or xs i dx) ≤ g (get_or ys i dy)) → sum_by f xs ≤ sum_by g ys
sum_below f g [] [] dx dy e each = lit≤ tt
sum_below f g [] (y ∷ ys) dx dy e each = absurd (omega (arith, e))
sum_below f g (x ∷ xs) [] dx dy e each = absurd (omega (arith, e))
sum_below f g (x ∷ xs) (y ∷ ys) dx dy e each =
    let first : f x ≤ g y = each 0 (omega arith) in
    let rest = sum_below f g xs ys dx dy (omega (arith, e)) (λ i l. each (suc i) (omega (arith, l))) in
    let one = sum_by-cons f x xs in
    let other = sum_by-cons g y ys in
    omega (arith, first, rest, one, other)

-- a call is before the end
call_before_end : (ss : List Statement) (i : ℕ) → i ≤ length ss → one_if (is_call (slice_get ss i)) + i ≤ length ss
call_before_end [] i l = omega (arith, l)
call_before_end (s ∷ ss) zero l = let one = at_most_one (is_call (Some s)) in omega (arith, one)
call_before_end (s ∷ ss) (suc i) l = let rest = call_before_end ss i (omega (arith, l)) in omega (arith, rest)

abbrev no_target : TargetScript
no_target = record { name = []; policy = 0; channels = 0; threads = [] }

threads_at_place : (targets : List TargetScript) (t : ℕ) → threads_of (slice_get targets t) ≡ (get_or targets t no_target).threads
threads_at_place [] t = refl
threads_at_place (target ∷ targets) zero = refl
threads_at_place (target ∷ targets) (suc t) = threads_at_place targets t

count_at_place : (targets : List TargetScript) (t : ℕ) → thread_count (slice_get targets t) ≡ length (get_or targets t no_target).threads
count_at_place [] t = refl
count_at_place (target ∷ targets) zero = refl
count_at_place (target ∷ targets) (suc t) = count_at_place targets t

statements_at_place : (threads : List (List Statement)) (k : ℕ) → or_none (slice_get threads k) ≡ get_or threads k []
statements_at_place [] k = refl
statements_at_place (ss ∷ threads) zero = refl
statements_at_place (ss ∷ threads) (suc k) = statements_at_place threads k

-- a thread counts for at most as many entries as it has statements
thread_weight : (script : Script) (w : WorldAt) (t k : ℕ) → IsRunOf w t k (run_at w t k) → IsAtStatement script (run_at w t k).thread
    → weight (run_at w t k) ≤ length (statements_of script t k)
thread_weight script w t k its stands =
    let x = (run_at w t k).thread in
    let call = handed_in x.stage in
    let same : one_if (is_calling x.stage) ≡ one_if (is_call (statement_at script x.target x.thread x.place)) = ap one_if stands.calling in
    let before = call_before_end (statements_of script x.target x.thread) x.place stands.place in
    let counted = its.counted in
    let lengths : length (statements_of script x.target x.thread) ≡ length (statements_of script t k) =
    ap (λ (z : ℕ × ℕ). length (statements_of script z.0 z.1)) (λ j. (its.its_target j, its.its_number j)) in
    omega (arith, call, same, before, counted, lengths)

-- so all threads count for at most as many as there are statements
all_weight : (script : Script) (w : WorldAt) → IsWorld w → IsRunning script w → sum_by (λ runs. sum_by weight runs) w.threads ≤ statement_count script
all_weight script w kept runs =
    sum_below (λ (rs : List RunAt). sum_by weight rs) statements_in w.threads script.targets [] no_target runs.targets (λ t l. one_target t)
  where
    one_target : (t : ℕ) → sum_by weight (threads_at w t) ≤ statements_in (get_or script.targets t no_target)
    one_target t =
        sum_below weight (λ (statements : List Statement). length statements) (threads_at w t) (get_or script.targets t no_target).threads no_run []
        (runs.threads t ∙ count_at_place script.targets t)
        (λ k l. subst (λ (z : List Statement). weight (run_at w t k) ≤ length z)
        (ap (λ (threads : List (List Statement)). or_none (slice_get threads k)) (threads_at_place script.targets t) ∙ statements_at_place (get_or script.targets t no_target).threads k)
        (thread_weight script w t k (kept.threads t k l) (runs.stands t k l)))

module _ (targets : SoundTargets) (statements : SoundStatements) (answers : AnswersKeepHistories) where
  pub worlds_have_few_entries : WorldsHaveFewEntries
  worlds_have_few_entries script w o =
      let keeps = of_runs targets statements script w o in
      let good = (good_on targets statements answers o.policies script o.ready w (leads_of script w o)).has in
      let history = subst (λ (z : Setting). IsHistory (record { setting = z; space = w.shared.book.space; entries = w.shared.book.entries })) good.setting_is good.history in
      let many : ℕ → ℕ = λ t. channels_of (slice_get script.targets t) in
      let count = length script.targets in
      let listed = entries_at count many (setting_of o.policies script) (length-map script.targets (λ target. policy_at o.policies target.policy)) (channels_from script.targets)
      (opening script.start) w.shared.book.entries history.legal in
      let few = most_places count many (λ t c. entries_on t c w.shared.book.entries) (λ t c. tally_all script t c w.threads)
      (λ t c l m. worlds_are_few targets statements script w o t c l m) in
      let once = all_once count many script w.threads in
      let all = all_weight script w keeps.0 keeps.1 in
      omega (arith, listed, few, once, all)

  pub runs_have_few_entries : RunsHaveFewEntries
  runs_have_few_entries policies script schedule can = by_end (first_unfinished script (played policies script schedule).threads)
    where
      by_end : (o : Option (ℕ × ℕ)) → length (ended (played policies script schedule) o).report.entries ≤ statement_count script
      by_end None = worlds_have_few_entries script (drained (played policies script schedule)) (of_end targets statements policies script schedule can)
      by_end (Some thread) = worlds_have_few_entries script (played policies script schedule) (of_run policies script schedule can)

abbrev are_threads : List TargetScript → List (List Statement) → Bool
are_threads targets threads = list_all (is_thread targets) threads

few_in_threads : (targets : List TargetScript) (threads : List (List Statement)) → are_threads targets threads ≡ true
    → sum_by (λ statements. length statements) threads ≤ length threads * 4096
few_in_threads targets threads h = sum_by-le (λ (s : List Statement). length s) 4096 threads (All-from_get_or (λ (s : List Statement). length s ≤ 4096) threads [] one)
  where
    one : (i : ℕ) → i < length threads → length (get_or threads i []) ≤ 4096
    one i l =
        let fits = one_of_all (is_thread targets) threads i (get_or threads i []) h (slice_get-get_or threads i [] l) in
        let low = (and_parts (nat_le (length (get_or threads i [])) 4096) (list_all (is_statement targets) (get_or threads i [])) fits).0 in
        grind (arith, nat_tests, low)

few_in_target : (targets : List TargetScript) (target : TargetScript) → is_target targets target ≡ true → statements_in target ≤ 16384
few_in_target targets target h =
    let few = nat_le 1 target.channels && nat_le target.channels 8 && nat_le (length target.threads) 4 in
    let count = target_threads targets target h in
    let sum = few_in_threads targets target.threads (and_parts few (are_threads targets target.threads) h).1 in
    omega (arith, count, sum)

few_in_targets : (targets some : List TargetScript) → list_all (is_target targets) some ≡ true → sum_by statements_in some ≤ length some * 16384
few_in_targets targets some h =
    sum_by-le statements_in 16384 some
    (All-from_get_or (λ target. statements_in target ≤ 16384) some no_target
    (λ i l. few_in_target targets (get_or some i no_target) (one_of_all (is_target targets) some i (get_or some i no_target) h (slice_get-get_or some i no_target l))))

pub statements_are_few : StatementsAreFew
statements_are_few script h =
    let parts = sound_targets script h in
    let count = parts.0 in
    let sum = few_in_targets script.targets script.targets parts.1 in
    omega (arith, count, sum)
