-- What the closed table and the seats tell is the world at the end.
use Rattle.std.proofs.Common.{◌≡◌, ◌∙◌, refl, ap, subst, sym, ℕ, zero, suc, ◌+◌, ◌*◌, ◌/◌, ◌%◌, ◌<◌, ◌++◌, Bool, true, eq-eqb, cond, List, [], ◌∷◌, map, length, get_or, slice_get, Option, None, Some, arith, slice_index}
use Rattle.std.proofs.lemmas.List.{length-map}
use Rattle.std.proofs.lemmas.List.FromFn.{get_or-map-range_with_len, length-range_with_len}
use Rattle.std.specs.List.{All, range_with_len}
use mathlib.Core.List.{map-map}
use mathlib.Core.Option as raw
use mathlib.Core.Option.{some-injective}
use lib.ListN.{get_elem?}
use Rattle.sb_actor.specs.Moves.{at}
use Rattle.sb_actor.specs.Places.{is_finished}
use Rattle.sb_actor.specs.WorkerStages.{WorkerAt}
use Rattle.sb_book.specs.Histories.{History}
use Rattle.sb_statements.specs.Actors.{thread_count}
use Rattle.sb_statements.specs.Soundness.{channels_of}
use Rattle.sb_statements.specs.declared.schedules.Actor.TheVariants.{Worker, Thread}
use Rattle.sb_statements.specs.declared.scripts.Script.{Script}
use Rattle.sb_statements.specs.declared.scripts.TargetScript.{TargetScript}
use Rattle.sb_core.specs.Laws.{HasTarget, WorldsHaveTargets}
use Rattle.sb_core.specs.Reports.{results_of}
use Rattle.sb_core.specs.Threads.{RunAt, first_unfinished, no_run, unfinished_of}
use Rattle.sb_core.specs.Words.{words_of}
use Rattle.sb_core.specs.Worlds.{WorldAt, no_worker, run_at, worker_at}
use Rattle.sb_shared.specs.Closing.{AreFinished, Ends, IsClosed, part_of_thread, part_of_worker, taken_thread, taken_worker}
use Rattle.sb_shared.specs.Opening.{target_places, thread_places}
use Rattle.sb_shared.specs.Parts.{held_by, part_of}
use Rattle.sb_shared.specs.Rooms.{all_words_from, channel_counts, grouped, thread_counts, words_from}
use Rattle.sb_shared.specs.Rule.{Slot, spot}
use Rattle.sb_shared.specs.Seats.{ThreadSeatValue, WorkerSeatValue, thread_in, worker_in}
use Rattle.sb_shared.specs.Steps.{IsSince}
use Rattle.sb_shared.specs.declared.closings.ClosedRun.{ClosedRun}
use Rattle.sb_shared.specs.declared.views.Origin.{Origin}
use Rattle.sb_shared.specs.declared.views.Part.{Part}
use Rattle.sb_shared.specs.declared.views.TakenSeat.{TakenSeat}
use Rattle.sb_shared.proofs.Grouping.{at_left, at_right, grouped_joined, joined, map_joined, same_lengths}
use Rattle.sb_shared.proofs.Places.{list_is, number_is, rows_are}
use Rattle.sb_shared.proofs.Ranges.{here_at}

-- elements by their places
at_map : {A B : Type 0} (f : A → B) (l : List A) (n : ℕ) (a : A) → get_elem? l n ≡ raw.some a → get_elem? (map f l) n ≡ raw.some (f a)
at_map f [] n a e = absurd cc
at_map f (x ∷ l) zero a e = ap (λ z. raw.some (f z)) (some-injective x a e)
at_map f (x ∷ l) (suc n) a e = at_map f l n a e

same_map : {A B : Type 0} (f g : A → B) (l : List A) → ((n : ℕ) (a : A) → get_elem? l n ≡ raw.some a → f a ≡ g a) → map f l ≡ map g l
same_map f g [] h = refl
same_map f g (x ∷ l) h = let first = h 0 x refl in let rest = same_map f g l (λ n a e. h (suc n) a e) in λ i. first i ∷ rest i

there_at : {A : Type 0} (l : List A) (n : ℕ) → n < length l → (a : A) × (get_elem? l n ≡ raw.some a)
there_at [] n h = absurd (omega arith)
there_at (x ∷ l) zero h = (x, refl)
there_at (x ∷ l) (suc n) h = there_at l n (omega (arith, h))

get_length : {A : Type 0} (l : List (List A)) (i : ℕ) → get_or (map (λ xs. length xs) l) i 0 ≡ length (get_or l i [])
get_length [] i = refl
get_length (x ∷ l) zero = refl
get_length (x ∷ l) (suc i) = get_length l i

all_at : {A : Type 0} (P : A → Type 0) (l : List A) (n : ℕ) (a : A) → All P l → get_elem? l n ≡ raw.some a → P a
all_at P [] n a all e = absurd cc
all_at P (x ∷ l) zero a all e = subst P (some-injective x a e) (all 0 x (omega arith))
all_at P (x ∷ l) (suc n) a all e = all_at P l n a (λ k d h. all (suc k) d (omega (arith, h))) e

all_from : {A : Type 0} (P : A → Type 0) (l : List A) → ((n : ℕ) (a : A) → get_elem? l n ≡ raw.some a → P a) → All P l
all_from P l h = λ k d low. h k (get_or l k d) (here_at l k d low).1

-- if each thread is finished, none is the first that is not
abbrev AreOver : Script → List RunAt → Type 0
AreOver script runs = (n : ℕ) (x : RunAt) → get_elem? runs n ≡ raw.some x → is_finished script x.thread ≡ true

none_of : (script : Script) (runs : List RunAt) → AreOver script runs → unfinished_of script runs ≡ None
none_of script [] h = refl
none_of script (x ∷ runs) h = rw (h 0 x refl) (none_of script runs (λ n y e. h (suc n) y e))

none_left : (script : Script) (threads : List (List RunAt)) → AreOver script (joined threads) → first_unfinished script threads ≡ None
none_left script [] h = refl
none_left script (runs ∷ threads) h =
    let first = none_of script runs (λ n x e. h n x (at_left runs (joined threads) n x e)) in
    let others = none_left script threads (λ n x e. h (length runs + n) x (at_right runs (joined threads) n x e)) in
    rw (first, others) refl

-- words by their targets
all_words_are : (rows : List ℕ) (t : ℕ) (ns : List ℕ) (words : List (List ℕ)) → length words ≡ length ns
    → ((i : ℕ) → i < length words → get_or words i [] ≡ words_from rows (t + i) (get_or ns i 0)) → all_words_from rows t ns ≡ words
all_words_are rows t [] [] e h = refl
all_words_are rows t [] (ws ∷ words) e h = absurd (omega (arith, e))
all_words_are rows t (n ∷ ns) [] e h = absurd (omega (arith, e))
all_words_are rows t (n ∷ ns) (ws ∷ words) e h =
    let first : words_from rows t n ≡ ws = ap (λ z. words_from rows z n) (let z : t ≡ t + 0 = omega arith in z) ∙ sym (h 0 (omega arith)) in
    let rest = all_words_are rows (t + 1) ns words (omega (arith, e)) (λ i l. h (suc i) (omega (arith, l)) ∙ ap (λ z. words_from rows z (get_or ns i 0)) (omega arith)) in
    λ i. first i ∷ rest i

at_parts : (i : ℕ) → at (i / 65) (i % 65) ≡ i
at_parts i = omega arith

abbrev book_in : Part → Option History
book_in p = (worker_in (p ∷ [])).book

abbrev state_in : Part → WorkerAt
state_in p = (worker_in (p ∷ [])).state

abbrev run_in : Part → RunAt
run_in p = (thread_in (p ∷ [])).run

-- as many seats and rooms as targets
pub workers_many : (targets : List TargetScript) (workers : List WorkerSeatValue) → map (λ s. s.target) workers ≡ target_places targets → length workers ≡ length targets
workers_many targets workers e = sym (length-map workers (λ s. s.target)) ∙ ap (λ (ns : List ℕ). length ns) e ∙ length-range_with_len 0 (length targets)

pub channels_many : (targets : List TargetScript) → length (channel_counts targets) ≡ length targets
channels_many targets = length-map (target_places targets) (λ t. channels_of (slice_get targets t)) ∙ length-range_with_len 0 (length targets)

pub threads_many : (targets : List TargetScript) → length (thread_counts targets) ≡ length targets
threads_many targets = length-map (target_places targets) (λ t. thread_count (slice_get targets t)) ∙ length-range_with_len 0 (length targets)

module _ (law : WorldsHaveTargets) (key : Origin) (parts : List Part) (taken before : List TakenSeat) (rows : List ℕ) (slot : Slot) (e : Ends key parts taken rows slot)
    (workers : List WorkerSeatValue) (threads : List ThreadSeatValue) (parts_are : parts ≡ map part_of_worker workers ++ map part_of_thread threads)
    (taken_are : taken ≡ before ++ map taken_worker workers ++ map taken_thread threads)
    (worker_places : map (λ s. s.target) workers ≡ target_places key.script.value.targets)
    (their_places : map (λ s. (s.target, s.thread)) threads ≡ thread_places key.script.value.targets) where
  abbrev targets : List TargetScript
  targets = key.script.value.targets

  abbrev w : WorldAt
  w = e.world

  many : length w.workers ≡ length targets
  many = (law key.script.value w e.kept e.running).0

  has : (t : ℕ) → t < length targets → HasTarget key.script.value w t
  has = (law key.script.value w e.kept e.running).1

  worker_stands : (n : ℕ) (s : WorkerSeatValue) → get_elem? workers n ≡ raw.some s → part_of_worker s ≡ part_of w (Worker s.target)
  worker_stands n s at_n = e.stand n (part_of_worker s)
      (ap (λ (l : List Part). get_elem? l n) parts_are ∙ at_left (map part_of_worker workers) (map part_of_thread threads) n (part_of_worker s) (at_map part_of_worker workers n s at_n))

  thread_stands : (n : ℕ) (s : ThreadSeatValue) → get_elem? threads n ≡ raw.some s → part_of_thread s ≡ part_of w (Thread s.target s.thread)
  thread_stands n s at_n = e.stand (length (map part_of_worker workers) + n) (part_of_thread s)
      (ap (λ (l : List Part). get_elem? l (length (map part_of_worker workers) + n)) parts_are
      ∙ at_right (map part_of_worker workers) (map part_of_thread threads) n (part_of_thread s) (at_map part_of_thread threads n s at_n))

  by_workers : All (λ s. IsSince (part_of_worker s ∷ []) s.history e.events) workers
  by_workers = all_from (λ s. IsSince (part_of_worker s ∷ []) s.history e.events) workers (λ n s at_n. e.since (length before + n) (taken_worker s)
      (ap (λ (l : List TakenSeat). get_elem? l (length before + n)) taken_are
      ∙ at_left (before ++ map taken_worker workers) (map taken_thread threads) (length before + n) (taken_worker s)
      (at_right before (map taken_worker workers) n (taken_worker s) (at_map taken_worker workers n s at_n))))

  by_threads : All (λ s. IsSince (part_of_thread s ∷ []) s.history e.events) threads
  by_threads = all_from (λ s. IsSince (part_of_thread s ∷ []) s.history e.events) threads (λ n s at_n. e.since (length (before ++ map taken_worker workers) + n) (taken_thread s)
      (ap (λ (l : List TakenSeat). get_elem? l (length (before ++ map taken_worker workers) + n)) taken_are
      ∙ at_right (before ++ map taken_worker workers) (map taken_thread threads) n (taken_thread s) (at_map taken_thread threads n s at_n)))

  pub states_are : map (λ s. s.state) workers ≡ w.workers
  states_are =
      same_map (λ s. s.state) (λ s. worker_at w s.target) workers (λ n s at_n. ap state_in (worker_stands n s at_n))
      ∙ sym (map-map (worker_at w) (λ s. s.target) workers) ∙ ap (map (worker_at w)) worker_places
      ∙ ap (λ n. map (worker_at w) (range_with_len 0 n)) (sym many)
      ∙ sym (list_is (worker_at w) no_worker 0 w.workers (λ i l. ap (worker_at w) (let z : i ≡ 0 + i = omega arith in z)))

  runs_are : map (λ s. s.run) threads ≡ joined w.threads
  runs_are =
      same_map (λ s. s.run) (λ s. run_at w s.target s.thread) threads (λ n s at_n. ap run_in (thread_stands n s at_n))
      ∙ sym (map-map (λ (p : ℕ × ℕ). run_at w p.0 p.1) (λ s. (s.target, s.thread)) threads) ∙ ap (map (λ (p : ℕ × ℕ). run_at w p.0 p.1)) their_places
      ∙ sym (rows_are (run_at w) no_run 0 targets w.threads e.running.targets e.running.threads (λ i k l. ap (λ z. run_at w z k) (let z : i ≡ 0 + i = omega arith in z)))

  counts_are : thread_counts targets ≡ map (λ xs. length xs) w.threads
  counts_are =
      let size : length (map (λ (xs : List RunAt). length xs) w.threads) ≡ length targets = length-map w.threads (λ (xs : List RunAt). length xs) ∙ e.running.targets in
      ap (λ n. map (λ t. thread_count (slice_get targets t)) (range_with_len 0 n)) (sym size)
      ∙ sym (list_is (λ t. thread_count (slice_get targets t)) 0 0 (map (λ (xs : List RunAt). length xs) w.threads)
      (λ i l. get_length w.threads i ∙ e.running.threads i ∙ ap (λ z. thread_count (slice_get targets z)) (let z : i ≡ 0 + i = omega arith in z)))

  pub results_are : grouped (thread_counts targets) (map (λ s. s.run.results) threads) ≡ results_of w.threads
  results_are =
      (λ i. grouped ((counts_are ∙ sym (same_lengths (λ (x : RunAt). x.results) w.threads)) i)
      ((sym (map-map (λ (x : RunAt). x.results) (λ s. s.run) threads) ∙ ap (map (λ (x : RunAt). x.results)) runs_are ∙ map_joined (λ (x : RunAt). x.results) w.threads) i))
      ∙ grouped_joined (results_of w.threads)

  pub finished_are : AreFinished key threads → first_unfinished key.script.value w.threads ≡ None
  finished_are done = none_left key.script.value w.threads (subst (AreOver key.script.value) runs_are
      (λ n x at_n. over threads done n x at_n))
    where
      over : (seats : List ThreadSeatValue) → AreFinished key seats → AreOver key.script.value (map (λ s. s.run) seats)
      over [] done n x at_n = absurd cc
      over (s ∷ seats) done zero x at_n = subst (λ (z : RunAt). is_finished key.script.value z.thread ≡ true) (some-injective s.run x at_n) (done 0 s (omega arith))
      over (s ∷ seats) done (suc n) x at_n = over seats (λ k d h. done (suc k) d (omega (arith, h))) n x at_n

  -- nobody has the turn, since each worker is there, without the book
  pub nobody : w.shared.turn ≡ None
  nobody = by w.shared.turn refl
    where
      seat_of : (t : ℕ) → t < length targets → None ≡ held_by w.shared.turn w.shared.book t
      seat_of t l =
          let size : length workers ≡ length targets = workers_many targets workers worker_places in
          let found = there_at workers t (omega (arith, l, size)) in
          let s = found.0 in
          let its : get_elem? (target_places targets) t ≡ raw.some s.target = ap (λ (ns : List ℕ). get_elem? ns t) (sym worker_places) ∙ at_map (λ s. s.target) workers t s found.1 in
          let is : s.target ≡ t = (number_is 0 (length targets) t s.target its).0 ∙ omega arith in
          ap book_in (worker_stands t s found.1) ∙ ap (held_by w.shared.turn w.shared.book) is

      has_it : (t : ℕ) → held_by (Some t) w.shared.book t ≡ Some w.shared.book
      has_it t = ap (λ (b : Bool). cond b (Some w.shared.book) None) (eq-eqb t t refl)

      by : (o : Option ℕ) → w.shared.turn ≡ o → w.shared.turn ≡ None
      by None q = q
      by (Some t) q =
          let l = e.kept.holder t q in
          let n = many in
          let both : None ≡ Some w.shared.book = seat_of t (omega (arith, l, n)) ∙ ap (λ o. held_by o w.shared.book t) q ∙ has_it t in
          absurd cc

  pub book_is : slot ≡ Some w.shared.book
  book_is = e.book nobody

  pub words_are : all_words_from rows 0 (channel_counts targets) ≡ w.shared.words
  words_are =
      let listed : length w.shared.words ≡ length targets = e.kept.words ∙ many in
      let counted : length (channel_counts targets) ≡ length targets = channels_many targets in
      all_words_are rows 0 (channel_counts targets) w.shared.words (listed ∙ sym counted) (λ t l. of_target t (omega (arith, l, listed)))
    where
      of_target : (t : ℕ) → t < length targets → words_of w.shared.words t ≡ words_from rows (0 + t) (get_or (channel_counts targets) t 0)
      of_target t l =
          let there = has t l in
          let low = there.target in
          let few = there.few in
          let size = there.sized in
          let count : get_or (channel_counts targets) t 0 ≡ channels_of (slice_get targets t) =
          get_or-map-range_with_len (λ t. channels_of (slice_get targets t)) 0 (length targets) t t 0 l (omega arith) in
          let same : length (words_of w.shared.words t) ≡ get_or (channel_counts targets) t 0 * 65 = size ∙ ap (λ z. z * 65) (sym count) in
          let here : t ≡ 0 + t = omega arith in
          list_is (λ i. slice_index rows (spot (0 + t) (i / 65) (i % 65))) 0 0 (words_of w.shared.words t)
          (λ i k.
          let channel : i / 65 < 8 = omega (arith, k, size, few) in
          let word : i % 65 < 65 = omega arith in
          let is : i ≡ 0 + i = omega arith in
          ap (λ z. get_or (words_of w.shared.words t) z 0) (sym (at_parts i)) ∙ sym (e.words t (i / 65) (i % 65) low channel word)
          ∙ (λ q. slice_index rows (spot (here q) (is q / 65) (is q % 65))))
          ∙ ap (λ n. map (λ i. slice_index rows (spot (0 + t) (i / 65) (i % 65))) (range_with_len 0 n)) same

  pub closed_run : (run : ClosedRun) → run.words ≡ all_words_from rows 0 (channel_counts targets) → run.workers.items ≡ map (λ s. s.state) workers → slot ≡ Some run.book
      → run.results ≡ grouped (thread_counts targets) (map (λ s. s.run.results) threads) → IsClosed key workers threads run
  closed_run run words states book results =
      let same : run.book ≡ w.shared.book = the_same run.book w.shared.book (sym book ∙ book_is) in
      record {
        events = e.events;
        world = w;
        there = e.there;
        reached = e.reached;
        by_workers = by_workers;
        by_threads = by_threads;
        turn = nobody;
        words = words ∙ words_are;
        states = states ∙ states_are;
        book = same;
        setting = ap (λ b. b.setting) same ∙ e.setting;
        results = results ∙ results_are;
        finished = finished_are;
      }
    where
      the_same : (x y : History) → Some x ≡ Some y → x ≡ y
      the_same x y q = cc
