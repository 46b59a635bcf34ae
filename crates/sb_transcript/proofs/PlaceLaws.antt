-- Where results are: each number belongs to one, and they are numbered in their order.
use Rattle.std.proofs.Common.{◌≡◌, ℕ, ◌+◌, ◌-◌, ◌<◌, ◌≤◌, List, [], ◌∷◌, length, take, get_or, refl, ⊎_elim, zero, suc, arith}
use Rattle.std.proofs.lemmas.Bool.{cases_lt, false≢true}
use Rattle.std.proofs.lemmas.List.Sums.{sum_by-cons}
use Rattle.std.specs.Prelude.{IsSome, slice_get}
use Rattle.sb_statements.specs.declared.results.StmtResult.{StmtResult}
use Rattle.sb_book.specs.Reports.{thread_count, result_count}
use Rattle.sb_transcript.specs.Places.{result_at, results_before, threads_of}
use Rattle.sb_transcript.specs.Laws.{NumbersAreResults, ResultsAreInOrder}

pub thread_count-cons : (rs : List StmtResult) (more : List (List StmtResult)) → thread_count (rs ∷ more) ≡ length rs + thread_count more
thread_count-cons rs more = sum_by-cons (λ (results : List StmtResult). length results) rs more

pub result_count-cons : (threads : List (List StmtResult)) (more : List (List (List StmtResult))) → result_count (threads ∷ more) ≡ thread_count threads + result_count more
result_count-cons threads more = sum_by-cons thread_count threads more

-- below its length a list has an element
there : (rs : List StmtResult) (n : ℕ) → n < length rs → IsSome (slice_get rs n)
there [] n h = absurd (omega arith)
there (r ∷ rs) zero h = refl
there (r ∷ rs) (suc n) h = there rs n (omega arith)

-- an element is there only below the length
within : (rs : List StmtResult) (n : ℕ) → IsSome (slice_get rs n) → n < length rs
within [] n h = absurd (false≢true h)
within (r ∷ rs) zero h = omega arith
within (r ∷ rs) (suc n) h = let e = within rs n h in omega arith

-- among threads, a number below their count has its thread and place
abbrev InThreads : List (List StmtResult) → ℕ → Type 0
InThreads threads n = (thread : ℕ) × (place : ℕ) × IsSome (slice_get (get_or threads thread []) place) × (thread_count (take thread threads) + place ≡ n)

in_threads : (threads : List (List StmtResult)) (n : ℕ) → n < thread_count threads → InThreads threads n
in_threads [] n h = absurd (omega arith)
in_threads (rs ∷ more) n h = ⊎_elim here (λ past. later past (in_threads more (n - length rs) (omega (arith, thread_count-cons rs more)))) (cases_lt n (length rs))
  where
    here : n < length rs → InThreads (rs ∷ more) n
    here below = (zero, n, there rs n below, omega arith)

    later : length rs ≤ n → InThreads more (n - length rs) → InThreads (rs ∷ more) n
    later past r = (suc r.0, r.1, r.2, omega (arith, thread_count-cons rs (take r.0 more), r.3))

-- the same among targets
abbrev InTargets : List (List (List StmtResult)) → ℕ → Type 0
InTargets targets n = (target : ℕ) × (thread : ℕ) × (place : ℕ) × IsSome (result_at targets target thread place) × (results_before targets target thread place ≡ n)

in_targets : (targets : List (List (List StmtResult))) (n : ℕ) → n < result_count targets → InTargets targets n
in_targets [] n h = absurd (omega arith)
in_targets (threads ∷ more) n h = ⊎_elim here (λ past. later past (in_targets more (n - thread_count threads) (omega (arith, result_count-cons threads more)))) (cases_lt n (thread_count threads))
  where
    here : n < thread_count threads → InTargets (threads ∷ more) n
    here below = let r = in_threads threads n below in (zero, r.0, r.1, r.2, omega (arith, r.3))

    later : thread_count threads ≤ n → InTargets more (n - thread_count threads) → InTargets (threads ∷ more) n
    later past r = (suc r.0, r.1, r.2, r.3, omega (arith, result_count-cons threads (take r.0 more), r.4))

pub numbers_are_results : NumbersAreResults
numbers_are_results results n h = in_targets results n h

-- there are fewer results before a place of a thread than in the threads up to a later one
before_thread : (threads : List (List StmtResult)) (thread place later : ℕ) → IsSome (slice_get (get_or threads thread []) place) → thread < later
    → thread_count (take thread threads) + place < thread_count (take later threads)
before_thread [] thread place later h less = absurd (false≢true h)
before_thread (rs ∷ more) thread place zero h less = absurd (omega arith)
before_thread (rs ∷ more) zero place (suc later) h less = omega (arith, thread_count-cons rs (take later more), within rs place h)
before_thread (rs ∷ more) (suc thread) place (suc later) h less =
    omega (arith, thread_count-cons rs (take thread more), thread_count-cons rs (take later more), before_thread more thread place later h (omega arith))

-- and than in all threads
before_end : (threads : List (List StmtResult)) (thread place : ℕ) → IsSome (slice_get (get_or threads thread []) place) → thread_count (take thread threads) + place < thread_count threads
before_end [] thread place h = absurd (false≢true h)
before_end (rs ∷ more) zero place h = omega (arith, thread_count-cons rs more, within rs place h)
before_end (rs ∷ more) (suc thread) place h = omega (arith, thread_count-cons rs more, thread_count-cons rs (take thread more), before_end more thread place h)

-- there are fewer results before a place of a target than in the targets up to a later one
before_target : (targets : List (List (List StmtResult))) (target thread place later : ℕ) → IsSome (result_at targets target thread place) → target < later
    → results_before targets target thread place < result_count (take later targets)
before_target [] target thread place later h less = absurd (false≢true h)
before_target (threads ∷ more) target thread place zero h less = absurd (omega arith)
before_target (threads ∷ more) zero thread place (suc later) h less = omega (arith, result_count-cons threads (take later more), before_end threads thread place h)
before_target (threads ∷ more) (suc target) thread place (suc later) h less =
    omega (arith, result_count-cons threads (take target more), result_count-cons threads (take later more), before_target more target thread place later h (omega arith))

pub results_are_in_order : ResultsAreInOrder
results_are_in_order results a b h less = ⊎_elim target (λ e. ⊎_elim (thread e.0) (λ f. place e.0 f.0 f.1) e.1) less
  where
    target : a.0 < b.0 → results_before results a.0 a.1 a.2 < results_before results b.0 b.1 b.2
    target below = omega (arith, before_target results a.0 a.1 a.2 b.0 h below)

    thread : a.0 ≡ b.0 → a.1 < b.1 → results_before results a.0 a.1 a.2 < results_before results b.0 b.1 b.2
    thread same below = rw (← same) (omega (arith, before_thread (threads_of results a.0) a.1 a.2 b.1 h below))

    place : a.0 ≡ b.0 → a.1 ≡ b.1 → a.2 < b.2 → results_before results a.0 a.1 a.2 < results_before results b.0 b.1 b.2
    place same equal below = rw (← same, ← equal) (omega arith)
