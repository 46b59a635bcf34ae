-- The world before the first step keeps what every world keeps, and runs its script.
use Rattle.std.proofs.Common.{◌≡◌, ◌∙◌, refl, ap, subst, sym, ℕ, zero, suc, ◌+◌, ◌*◌, ◌<◌, ◌≤◌, Bool, true, false, ltb, List, [], ◌∷◌, ◌++◌, length, length-append, map, get_or, slice_get, arith}
use Rattle.std.proofs.Math.Seq.{get_or-append_seam}
use Rattle.sb_statements.specs.Scripts.{is_clean}
use Rattle.sb_core.proofs.Bounds.{few_targets, ready_sound, some_channels, some_patience}
use Rattle.sb_core.proofs.Existence.{channels_from, listed, sound_at}
use Rattle.sb_core.proofs.ThreadKeeping.{first_calling, first_over, first_short, first_sound}
use Rattle.sb_core.proofs.Numbers.{none_some, least}
use native.Mathlib.Numerals.{unary_clauses}
use Rattle.sb_core.proofs.Names.{channels_of, clean_channels, clean_upto, first_run, first_runs, first_words, first_worker, first_workers, free_channel, free_channels, get_or-append, is_sound, IsAtStatement, IsReady, IsRunning, IsRunOf, IsWorkerOf, IsWorld, length-map, mark_at, nat_tests, no_run, no_worker, Policy, policy_at, run_at, RunAt, Script, SoundStatements, SoundTargets, start_threads, start_world, StartsKeep, statement_at, statements_of, TargetScript, thread_count, thread_start, threads_at, words_of, WorldAt, ℕ_discrete}

-- lists of the first this many
module _ {X : Type 0} (f : ℕ → X) (g : ℕ → List X) (none : g zero ≡ []) (more : (n : ℕ) → g (suc n) ≡ g n ++ f n ∷ []) where
  pub so_many : (n : ℕ) → length (g n) ≡ n
  so_many zero = ap (λ (l : List X). length l) none
  so_many (suc n) =
      let e = ap (λ (l : List X). length l) (more n) in
      let m = length-append (g n) (f n ∷ []) in
      let k = so_many n in
      omega (arith, e, m, k)

  pub each_is : (n i : ℕ) (d : X) → i < n → get_or (g n) i d ≡ f i
  each_is zero i d l = absurd (omega arith)
  each_is (suc n) i d l = by_place (λ low. each_is n i d low) (ℕ_discrete i n)
    where
      front : (i < n → get_or (g n) i d ≡ f i) → i < n → get_or (g (suc n)) i d ≡ f i
      front before low =
          let k = so_many n in
          ap (λ (xs : List X). get_or xs i d) (more n) ∙ (get_or-append (g n) (f n ∷ []) d i (omega (arith, k, low)) ∙ before low)

      by_place : (i < n → get_or (g n) i d ≡ f i) → Dec (i ≡ n) → get_or (g (suc n)) i d ≡ f i
      by_place before (yes e) =
          subst (λ z. get_or (g (suc n)) z d ≡ f z) (sym e)
          (ap (λ (xs : List X). get_or xs n d) (more n)
          ∙ subst (λ z. get_or (g n ++ f n ∷ []) z d ≡ f n) (so_many n) (get_or-append_seam (g n) (f n) [] d))
      by_place before (no ne) = front before (omega (arith, l, ne))

-- the words of each target
pub free_length : (n : ℕ) → length (free_channels n) ≡ n * 65
free_length zero = refl
free_length (suc n) =
    let m = length-append (free_channels n) free_channel in
    let one : length free_channel ≡ 65 = refl in
    let k = free_length n in
    let step : suc n * 65 ≡ n * 65 + 65 = omega arith in
    omega (arith, m, one, k, step)

pub words_at : (targets : List TargetScript) (t : ℕ) → words_of (first_words targets) t ≡ free_channels (channels_of (slice_get targets t))
words_at [] t = refl
words_at (target ∷ targets) zero = refl
words_at (target ∷ targets) (suc t) = words_at targets t

-- the list of a target's clean channels has one item for each channel
pub clean_length : (script : Script) (target n : ℕ) → length (clean_upto script target n) ≡ n
clean_length script target n = so_many (is_clean script target) (clean_upto script target) refl (λ n. refl) n

-- and each is that of its channel
pub clean_in_list : (script : Script) (target c : ℕ) → c < channels_of (slice_get script.targets target) → get_or (clean_channels script target) c false ≡ is_clean script target c
clean_in_list script target c l = each_is (is_clean script target) (clean_upto script target) refl (λ n. refl) (channels_of (slice_get script.targets target)) c false l

module _ (targets_law : SoundTargets) (statements_law : SoundStatements) (policies : List Policy) (script : Script) (h : IsReady policies script) where
  sound : is_sound script ≡ true
  sound = ready_sound policies script h

  abbrev start : WorldAt
  start = start_world policies script

  abbrev count : ℕ
  count = length script.targets

  workers_count : length start.workers ≡ count
  workers_count = so_many (first_worker script.targets) (first_workers script.targets) refl (λ n. refl) count

  lists_count : length start.threads ≡ count
  lists_count = so_many (λ t. first_runs script t (thread_count (slice_get script.targets t))) (start_threads script) refl (λ n. refl) count

  pub runs_of : (t : ℕ) → t < count → threads_at start t ≡ first_runs script t (thread_count (slice_get script.targets t))
  runs_of t l = each_is (λ t. first_runs script t (thread_count (slice_get script.targets t))) (start_threads script) refl (λ n. refl) count t [] l

  runs_count : (t : ℕ) → t < count → length (threads_at start t) ≡ thread_count (slice_get script.targets t)
  runs_count t l =
      ap (λ (xs : List RunAt). length xs) (runs_of t l)
      ∙ so_many (first_run script t) (first_runs script t) refl (λ n. refl) (thread_count (slice_get script.targets t))

  run_of : (t k : ℕ) → t < count → k < length (threads_at start t) → run_at start t k ≡ first_run script t k
  run_of t k l m =
      ap (λ (xs : List RunAt). get_or xs k no_run) (runs_of t l)
      ∙ each_is (first_run script t) (first_runs script t) refl (λ n. refl) (thread_count (slice_get script.targets t)) k no_run (subst (λ n. k < n) (runs_count t l) m)

  target_there : (t k : ℕ) → k < length (threads_at start t) → t < count
  target_there t k l = subst (λ n. t < n) lists_count (listed start.threads t k l)

  -- each thread that is there has no results
  pub start_run : (t k : ℕ) → k < length (threads_at start t) → run_at start t k ≡ first_run script t k
  start_run t k l = run_of t k (target_there t k l) l

  worker_of : (t : ℕ) → t < count → IsWorkerOf start t (first_worker script.targets t)
  worker_of t l =
      let channels = some_channels targets_law script t sound l in
      record {
        its_target = refl;
        its_channels = sym (channels_from script.targets t);
        within = channels.0;
        few = channels.1;
        sound = tt;
        sized = ap (λ (ws : List ℕ). length ws) (words_at script.targets t) ∙ free_length (channels_of (slice_get script.targets t));
        turn = refl;
      }

  first_of : (t k : ℕ) → t < count → IsRunOf start t k (first_run script t k)
  first_of t k l =
      let n = channels_of (slice_get script.targets t) in
      let cleans = clean_length script t n in
      let some : 0 < length (clean_channels script t) = subst (λ z. 0 < z) (sym cleans) (some_channels targets_law script t sound l).0 in
      let good = sound_at script t k 0 sound statements_law in
      let waits = some_patience script sound in
      record {
        its_target = refl;
        its_number = refl;
        its_channels = cleans ∙ sym (channels_from script.targets t);
        short = first_short script.targets (length (clean_channels script t)) script.patience (mark_at k 0) some waits (statement_at script t k 0) good;
        sound = first_sound script.targets (length (clean_channels script t)) script.patience (mark_at k 0) some waits (statement_at script t k 0) good;
        counted = refl;
      }

  pub starts_world : IsWorld start
  starts_world = record {
    few = subst (λ n. n ≤ 8) (sym workers_count) (few_targets script sound);
    policies = length-map script.targets (λ target. policy_at policies target.policy) ∙ sym workers_count;
    channels = length-map script.targets (λ target. target.channels) ∙ sym workers_count;
    words = length-map script.targets (λ target. free_channels target.channels) ∙ sym workers_count;
    holder = λ t e. absurd (none_some t e);
    workers = λ t l.
        let there : t < count = subst (λ n. t < n) workers_count l in
        subst (λ x. IsWorkerOf start t x)
        (sym (each_is (first_worker script.targets) (first_workers script.targets) refl (λ n. refl) count t no_worker there)) (worker_of t there);
    lists = same_length (length start.threads) (length start.workers) (lists_count ∙ sym workers_count);
    threads = λ t k l. subst (λ x. IsRunOf start t k x) (sym (run_of t k (target_there t k l) l)) (first_of t k (target_there t k l));
  }
    where
      same_length : (a b : ℕ) → a ≡ b → a ≤ b
      same_length a b e = omega arith

  -- a target that is not there has no threads
  none_past : {X : Type 0} (xs : List (List X)) (t : ℕ) → length xs ≤ t → length (get_or xs t []) ≡ 0
  none_past [] t l = refl
  none_past (x ∷ xs) zero l = absurd (omega arith)
  none_past (x ∷ xs) (suc t) l = none_past xs t (omega (arith, l))

  past : (targets : List TargetScript) (t : ℕ) → length targets ≤ t → thread_count (slice_get targets t) ≡ 0
  past [] t l = refl
  past (x ∷ xs) zero l = absurd (omega arith)
  past (x ∷ xs) (suc t) l = past xs t (omega (arith, l))

  counts : (t : ℕ) → length (threads_at start t) ≡ thread_count (slice_get script.targets t)
  counts t = by_test (ltb t count) refl
    where
      by_test : (b : Bool) → ltb t count ≡ b → length (threads_at start t) ≡ thread_count (slice_get script.targets t)
      by_test true e = let low : t < count = grind (arith, nat_tests) in runs_count t low
      by_test false e =
          let high : count ≤ t = grind (arith, nat_tests) in
          let same = lists_count in
          none_past start.threads t (omega (arith, same, high)) ∙ sym (past script.targets t high)

  stands_first : (t k : ℕ) → IsAtStatement script (thread_start script t k)
  stands_first t k = record {
    place = least (length (statements_of script t k));
    calling = first_calling (statement_at script t k 0);
    over = first_over (statement_at script t k 0);
    block = refl;
    patience = refl;
    clean = refl;
  }

  pub starts_running : IsRunning script start
  starts_running = record {
    policies = policies;
    ready = h;
    channels = refl;
    targets = lists_count;
    threads = counts;
    stands = λ t k l. subst (λ (x : RunAt). IsAtStatement script x.thread) (sym (run_of t k (target_there t k l) l)) (stands_first t k);
  }

pub starts_keep : SoundTargets → SoundStatements → StartsKeep
starts_keep targets statements policies script h = (starts_world targets statements policies script h, starts_running targets statements policies script h)

channels_next : (n : ℕ) → free_channels (suc n) ≡ free_channels n ++ free_channel
channels_next n = refl

pub channels_more : (n : ℕ) → free_channels (n + 1) ≡ free_channels n ++ free_channel
channels_more n = simp unary_clauses (channels_next n)

-- a list of the first this many
listed_next : {X : Type 0} (f : ℕ → X) (g : ℕ → List X) → ((m : ℕ) → g (suc m) ≡ g m ++ f m ∷ []) → (n : ℕ) → g (n + 1) ≡ g n ++ f n ∷ []
listed_next f g more n = simp unary_clauses (more n)

pub runs_more : (script : Script) (target n : ℕ) → first_runs script target (n + 1) ≡ first_runs script target n ++ first_run script target n ∷ []
runs_more script target n = listed_next (first_run script target) (first_runs script target) (λ m. refl) n

workers_next : (targets : List TargetScript) (n : ℕ) → first_workers targets (suc n) ≡ first_workers targets n ++ first_worker targets n ∷ []
workers_next targets n = refl

pub workers_more : (targets : List TargetScript) (n : ℕ) → first_workers targets (n + 1) ≡ first_workers targets n ++ first_worker targets n ∷ []
workers_more targets n = simp unary_clauses (workers_next targets n)

start_next : (script : Script) (n : ℕ) → start_threads script (suc n) ≡ start_threads script n ++ first_runs script n (thread_count (slice_get script.targets n)) ∷ []
start_next script n = refl

pub threads_more : (script : Script) (n : ℕ)
    → start_threads script (n + 1) ≡ start_threads script n ++ first_runs script n (thread_count (slice_get script.targets n)) ∷ []
threads_more script n = simp unary_clauses (start_next script n)
