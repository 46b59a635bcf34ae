-- In every world of a script the entries on a channel, with one that is owed, are at most what threads handed over there and what made it ready directly.
use Rattle.std.proofs.Common.{◌≡◌, ◌≢◌, ◌∙◌, refl, ap, subst, sym, ℕ, suc, ◌+◌, ◌*◌, ◌%◌, ◌<◌, ◌≤◌, Bool, true, false, ◌&&◌, ◌==◌, if◌then◌else◌, List, [], ◌∷◌, ◌++◌, length, length-set, map, set, get_or, get_or-set_same, get_or-set_other, Option, None, Some, slice_get, arith}
use Rattle.std.proofs.lemmas.List.Sums.{sum_by-set}
use Rattle.sb_core.proofs.Names.{Act, Answer, at, CanRun, channels_of, drained, entries_on, EntriesAreFew, Entry, entry_of, first_unfinished, first_worker, first_workers, free_channels, has_sent, is_state, IsActThere, IsOfScript, IsReady, IsWorld, loaded, Look, no_run, no_worker, on_word, on_worker, one_if, option_to_list, place_of, played, Policy, results_of, run_at, RunAt, Schedule, Script, set-get_or, SharedAt, slice_index, SoundStatements, SoundTargets, start_world, statement_at, statements_of, step, stored, sum_by-cons, Take, tally_all, tally_from, tally_row, tally_so_far, tally_targets, tally_threads, target_decision, Thread, thread_after, thread_plan, threads_at, value_in, Word, words_of, worker_at, worker_plan, worker_step, WorkerAt, WorkerStage, WorldAt, WorldsAreFew, ℕ_discrete}
use Rattle.sb_actor.specs.declared.acts.Act.TheVariants as act
use Rattle.sb_core.specs.Runs.{ended}
use Rattle.sb_core.proofs.Bounds.{ready_sound}
use Rattle.sb_core.proofs.Beginning.{drained_threads}
use Rattle.sb_core.proofs.Judging.{none_behind, over_is}
use Rattle.sb_core.proofs.WorkerKeeping.{worker_sizes}
use Rattle.sb_core.proofs.Belonging.{leads_of, of_end, Keeps, holds_on}
use Rattle.sb_core.proofs.RunLaws.{each_finished}
use Rattle.sb_core.proofs.Settling.{other_stays}
use Rattle.sb_core.proofs.Opening.{opened}
use Rattle.sb_core.proofs.Starting.{each_is, free_length, words_at, so_many}
use Rattle.sb_core.proofs.Existence.{as_many, listed, targets_there, sound_at, thread_there, of_own}
use Rattle.sb_core.proofs.ThreadKeeping.{facts, thread_book, word_keeps}
use Rattle.sb_core.proofs.ThreadSources.{row_writes}
use Rattle.sb_core.proofs.ThreadTallies.{readies, row_counted, tally_in, tally_more}
use Rattle.sb_core.proofs.Sourcing.{WritesSource}
use Rattle.sb_core.proofs.WorkerTallies.{entries_more, looking_owed, owed, owed_by, own_owed}
use Rattle.sb_core.proofs.Numbers.{apart, self_same, from_zero, plus_none}

pub record Tallied (script : Script) (w : WorldAt) : Type 0 where
  pub few : (t c : ℕ) → t < length w.workers → at c 0 < length (words_of w.shared.words t)
      → entries_on t c w.shared.book.entries + owed (worker_at w t) c (slice_index (words_of w.shared.words t) (at c 0)) ≤ tally_all script t c w.threads

-- the worker of a target, on its own channels
pub own_few : (w : WorldAt) (t : ℕ) → IsWorld w → t < length w.workers → (c : ℕ) → at c 0 < length (words_of (worker_step w t).shared.words t)
    → (at c 0 < length (words_of w.shared.words t))
    × (entries_on t c (worker_step w t).shared.book.entries + owed (worker_at (worker_step w t) t) c (slice_index (words_of (worker_step w t).shared.words t) (at c 0))
    ≤ entries_on t c w.shared.book.entries + owed (worker_at w t) c (slice_index (words_of w.shared.words t) (at c 0)))
own_few w t kept there c inside =
    let k = kept.workers t there in
    let x = worker_at w t in
    let low : at c 0 < length (words_of w.shared.words t) = subst (λ n. at c 0 < n) (worker_sizes w t kept there t) inside in (
      low,
      of_own w t kept there (λ x y s. entries_on t c s.book.entries + owed y c (slice_index (words_of s.words t) (at c 0))
          ≤ entries_on t c w.shared.book.entries + owed x c (slice_index (words_of w.shared.words t) (at c 0)))
          (own_owed w t x.channels x.channel kept there c low x.stage k.sound),
    )

-- the entries of another target
module _ (w : WorldAt) (t u c : ℕ) (x : WorkerAt) (ne : u ≢ t) where
  pub other_entries : (stage : WorkerStage) → entries_on u c (on_worker w.shared t (record x { stage = stage }) (worker_plan (record x { stage = stage }))).shared.book.entries ≡ entries_on u c w.shared.book.entries
  other_entries (Answer taken) =
      let e = entry_of w.shared.book.space t x.channel taken (target_decision w.shared.book t taken) in
      let more = entries_more u c w.shared.book.entries e in
      let none : one_if (t == u && x.channel == c) ≡ 0 = ap (λ b. one_if (b && x.channel == c)) (apart t u ne) in
      omega (arith, more, none)
  other_entries _ = refl

tallied_worker : (script : Script) (w : WorldAt) (t : ℕ) → Keeps script (Tallied script) w → t < length w.workers → Tallied script (worker_step w t)
tallied_worker script w t r there =
    record { few = λ u c l m. by_place u c (subst (λ n. u < n) (length-set w.workers t _) l) m (ℕ_discrete u t) }
  where
    by_place : (u c : ℕ) → u < length w.workers → at c 0 < length (words_of (worker_step w t).shared.words u) → Dec (u ≡ t)
        → entries_on u c (worker_step w t).shared.book.entries + owed (worker_at (worker_step w t) u) c (slice_index (words_of (worker_step w t).shared.words u) (at c 0)) ≤ tally_all script u c w.threads
    by_place u c l m (yes e) =
        subst (λ z. at c 0 < length (words_of (worker_step w t).shared.words z)
        → entries_on z c (worker_step w t).shared.book.entries + owed (worker_at (worker_step w t) z) c (slice_index (words_of (worker_step w t).shared.words z) (at c 0)) ≤ tally_all script z c w.threads) (sym e)
        (λ q. let o = own_few w t r.kept there c q in at_most _ _ _ o.1 (r.has.few t c there o.0)) m
      where
        at_most : (a b c : ℕ) → a ≤ b → b ≤ c → a ≤ c
        at_most a b c p q = omega (arith, p, q)
    by_place u c l m (no ne) =
        let s = other_stays w t u r.kept there ne in
        let before = r.has.few u c l (subst (λ (z : List ℕ). at c 0 < length z) s.words m) in
        subst (λ (z : ℕ × WorkerAt × List ℕ). z.0 + owed z.1 c (slice_index z.2 (at c 0)) ≤ tally_all script u c w.threads)
        (λ j. (sym (other_entries w t u c (worker_at w t) ne (worker_at w t).stage) j, sym s.worker j, sym s.words j)) before

-- a state becomes 3 if a step makes the channel ready
same_place : (c : ℕ) (word : Word) → word.at < 65 → place_of word ≡ at c 0 → (word.channel ≡ c) × (word.at ≡ 0)
same_place c word l e =
    let one : word.channel ≡ c = omega (arith, e, l) in
    (one, omega (arith, e, one))

is_this : (t u c : ℕ) (word : Word) → u ≡ t → word.channel ≡ c → word.at ≡ 0 → is_state t c u word ≡ true
is_this t u c word e f g =
    let one : (u == t) ≡ true = ap (λ z. z == t) e ∙ self_same t in
    let two : (word.channel == c) ≡ true = ap (λ z. z == c) f ∙ self_same c in
    let three : (word.at == 0) ≡ true = ap (λ z. z == 0) g ∙ self_same 0 in
    rw (one, two, three) refl

module _ (s : SharedAt) (u c : ℕ) (inside : at c 0 < length (words_of s.words u)) where
  abbrev state : ℕ
  state = slice_index (words_of s.words u) (at c 0)

  more : (a b : ℕ) → a ≤ a + b
  more a b = omega arith

  put : (t : ℕ) (word : Word) (value : ℕ) → t < length s.words → word.at < 65 → (r : ℕ) → (is_state u c t word ≡ true → one_if (value == 3) ≤ r)
      → one_if (slice_index (words_of (set s.words t (stored (words_of s.words t) word value)) u) (at c 0) == 3) ≤ one_if (state == 3) + r
  put t word value here low r f = by_target (ℕ_discrete u t)
    where
      by_word : u ≡ t → Dec (at c 0 ≡ place_of word) → one_if (slice_index (stored (words_of s.words t) word value) (at c 0) == 3) ≤ one_if (slice_index (words_of s.words t) (at c 0) == 3) + r
      by_word e (yes p) =
          let parts = same_place c word low (sym p) in
          let rises = f (is_this u t c word (sym e) parts.0 parts.1) in
          let inside_t : place_of word < length (words_of s.words t) =
          subst (λ z. z < length (words_of s.words t)) p (subst (λ z. at c 0 < length (words_of s.words z)) e inside) in
          let now : slice_index (stored (words_of s.words t) word value) (at c 0) ≡ value =
          ap (λ z. slice_index (stored (words_of s.words t) word value) z) p ∙ get_or-set_same (words_of s.words t) (place_of word) value 0 inside_t in
          let same : one_if (slice_index (stored (words_of s.words t) word value) (at c 0) == 3) ≡ one_if (value == 3) = ap (λ z. one_if (z == 3)) now in
          omega (arith, rises, same)
      by_word e (no ne) =
          let now = get_or-set_other (words_of s.words t) (place_of word) (at c 0) value 0 ne in
          let same : one_if (slice_index (stored (words_of s.words t) word value) (at c 0) == 3) ≡ one_if (slice_index (words_of s.words t) (at c 0) == 3) = ap (λ z. one_if (z == 3)) now in
          omega (arith, same)

      by_target : Dec (u ≡ t) → one_if (slice_index (words_of (set s.words t (stored (words_of s.words t) word value)) u) (at c 0) == 3) ≤ one_if (state == 3) + r
      by_target (yes e) =
          subst (λ z. one_if (slice_index (words_of (set s.words t (stored (words_of s.words t) word value)) z) (at c 0) == 3) ≤ one_if (slice_index (words_of s.words z) (at c 0) == 3) + r) (sym e)
          (subst (λ (ws : List ℕ). one_if (slice_index ws (at c 0) == 3) ≤ one_if (slice_index (words_of s.words t) (at c 0) == 3) + r)
          (sym (get_or-set_same s.words t (stored (words_of s.words t) word value) [] here)) (by_word e (ℕ_discrete (at c 0) (place_of word))))
      by_target (no ne) =
          let now = get_or-set_other s.words t u (stored (words_of s.words t) word value) [] ne in
          let same : one_if (slice_index (words_of (set s.words t (stored (words_of s.words t) word value)) u) (at c 0) == 3) ≡ one_if (state == 3) = ap (λ (ws : List ℕ). one_if (slice_index ws (at c 0) == 3)) now in
          omega (arith, same)

  state_rises : (script : Script) (es : List Entry) (a : Act) → IsActThere s.words a → WritesSource script es a
      → one_if (slice_index (words_of (on_word s a).shared.words u) (at c 0) == 3) ≤ one_if (state == 3) + one_if (readies u c a (value_in (on_word s a).seen))
  state_rises script es (act.Load t word) there w = more (one_if (state == 3)) 0
  state_rises script es (act.Store t word value) there w =
      put t word value there.listed w.0 (one_if (is_state u c t word && value == 3)) (λ e. same_test (is_state u c t word) (value == 3) e)
    where
      same_test : (a b : Bool) → a ≡ true → one_if b ≤ one_if (a && b)
      same_test true b e = omega arith
      same_test false b e = absurd (cc)
  state_rises script es (act.Exchange t word from to) there w = by_test (loaded (words_of s.words t) word == from) refl
    where
      same_test : (a b d : Bool) → a ≡ true → b ≡ true → one_if d ≤ one_if (a && (b && d))
      same_test true true d e f = omega arith
      same_test true false d e f = absurd (cc)
      same_test false b d e f = absurd (cc)

      by_test : (b : Bool) → (loaded (words_of s.words t) word == from) ≡ b
          → one_if (slice_index (words_of (set s.words t (stored (words_of s.words t) word (if b then to else loaded (words_of s.words t) word))) u) (at c 0) == 3)
          ≤ one_if (state == 3) + one_if (is_state u c t word && (loaded (words_of s.words t) word == from && to == 3))
      by_test true e =
          put t word to there.listed w.0 (one_if (is_state u c t word && (loaded (words_of s.words t) word == from && to == 3))) (λ f. same_test (is_state u c t word) (loaded (words_of s.words t) word == from) (to == 3) f e)
      by_test false e =
          let as_was = ap (λ (z : List (List ℕ)). one_if (slice_index (words_of z u) (at c 0) == 3))
          (ap (λ (z : List ℕ). set s.words t z) (set-get_or (words_of s.words t) (place_of word) 0) ∙ set-get_or s.words t []) in
          omega (arith, as_was)
  state_rises script es act.Take there w = more (one_if (state == 3)) 0
  state_rises script es _ there w = more (one_if (state == 3)) 0

-- what is owed grows by no more
owed_rises : (b : Bool) (stage : WorkerStage) (s after r : ℕ) → one_if (after == 3) ≤ one_if (s == 3) + r → owed_by b stage after ≤ owed_by b stage s + r
owed_rises true Look s after r l = l
owed_rises true _ s after r l = omega arith
owed_rises false _ s after r l = l

module _ (targets : SoundTargets) (statements : SoundStatements) (script : Script) where
  tallied_thread : (w : WorldAt) (t k : ℕ) → Keeps script (Tallied script) w → k < length (threads_at w t) → Tallied script (step script w (Thread t k))
  tallied_thread w t k r there = record { few = λ u c l m. counted u c l m }
    where
      counted : (u c : ℕ) → u < length w.workers → at c 0 < length (words_of (step script w (Thread t k)).shared.words u)
          → entries_on u c (step script w (Thread t k)).shared.book.entries + owed (worker_at w u) c (slice_index (words_of (step script w (Thread t k)).shared.words u) (at c 0))
          ≤ tally_all script u c (step script w (Thread t k)).threads
      counted u c l m =
          let x = run_at w t k in
          let y = x.thread in
          let its = r.kept.threads t k there in
          let at_this = r.runs.stands t k there in
          let plan = thread_plan script y in
          let act_there = thread_there script w r.kept r.runs t k there statements in
          let sizes = (word_keeps w.shared plan act_there).sizes u in
          let inside : at c 0 < length (words_of w.shared.words u) = subst (λ n. at c 0 < n) sizes m in
          let good = sound_at script y.target y.thread y.place (ready_sound r.runs.policies script r.runs.ready) statements in
          let seen = (on_word w.shared plan).seen in
          let next = thread_after script y seen in
          let z : RunAt = record { thread = next.thread; results = x.results ++ option_to_list next.ended } in
          let told = facts script w t k r.kept r.runs there statements in
          let book = ap (λ b. entries_on u c b.entries) (thread_book script w t k r.kept r.runs there statements) in
          let rises = state_rises w.shared u c inside script w.shared.book.entries plan act_there
          (row_writes script w.shared.book.entries y y.stage its.sound at_this.calling its.short at_this.block good) in
          let owes = owed_rises ((worker_at w u).channel == c) (worker_at w u).stage (slice_index (words_of w.shared.words u) (at c 0))
          (slice_index (words_of (on_word w.shared plan).shared.words u) (at c 0)) (one_if (readies u c plan (value_in seen))) rises in
          let row = row_counted script u c y y.stage its.sound seen in
          let tallies : tally_from script u c y.target y.thread 0 z.results
          ≡ tally_from script u c y.target y.thread 0 x.results + tally_in u c y.target (statement_at script y.target y.thread y.place) next.ended =
          tally_more script u c y.target y.thread 0 y.place x.results next.ended (from_zero (length x.results) y.place its.counted) in
          let heavy : tally_so_far script u c z ≡ one_if (y.target == u && has_sent c next.thread.stage) + tally_from script u c y.target y.thread 0 z.results =
          ap (λ (q : ℕ × ℕ). one_if (q.0 == u && has_sent c next.thread.stage) + tally_from script u c q.0 q.1 0 z.results) (λ j. (told.its_target j, told.its_number j)) in
          let in_row = sum_by-set (tally_so_far script u c) (threads_at w t) k z no_run there in
          let in_all = sum_by-set (tally_row script u c) w.threads t (set (threads_at w t) k z) [] (listed w.threads t k there) in
          let before = r.has.few u c l inside in
          put_together _ _ _ _ _ _ _ _ _ _ _ _ _ _ _ book owes before row tallies heavy in_row in_all
        where
          -- entries, what is owed, weights, sums
          put_together : (ea eb oa ob rise all sent_b sent_a told_b told_a more wa row_a row_b sum : ℕ) → ea ≡ eb → oa ≤ ob + rise → eb + ob ≤ all → sent_b + rise ≤ sent_a + more → told_a ≡ told_b + more
              → wa ≡ sent_a + told_a → row_a + (sent_b + told_b) ≡ row_b + wa → sum + row_b ≡ all + row_a → ea + oa ≤ sum
          put_together ea eb oa ob rise all sent_b sent_a told_b told_a more wa row_a row_b sum p1 p2 p3 p4 p5 p6 p7 p8 = omega (arith, p1, p2, p3, p4, p5, p6, p7, p8)

  -- at the start
  start_state : (n c : ℕ) → at c 0 < n * 65 → one_if (slice_index (free_channels n) (at c 0) == 3) ≡ 0
  start_state n c l =
      let whole : (at c 0) % 65 ≡ 0 = omega arith in
      let one : slice_index (free_channels n) (at c 0) ≡ 1 = opened n (at c 0) l ∙ ap (λ z. if z == 0 then 1 else 0) whole in
      ap (λ z. one_if (z == 3)) one

  tallied_start : (policies : List Policy) → IsReady policies script → Tallied script (start_world policies script)
  tallied_start policies h = record {
    few = λ t c l m.
        let n = channels_of (slice_get script.targets t) in
        let same = words_at script.targets t in
        let size = free_length n in
        let state = start_state n c (subst (λ z. at c 0 < z) (ap (λ (z : List ℕ). length z) same ∙ size) m) in
        let here = subst (λ n. t < n) (so_many (first_worker script.targets) (first_workers script.targets) refl (λ n. refl) (length script.targets)) l in
        subst (λ (x : WorkerAt). 0 + owed x c (slice_index (words_of (start_world policies script).shared.words t) (at c 0)) ≤ tally_all script t c (start_world policies script).threads)
        (sym (each_is (first_worker script.targets) (first_workers script.targets) refl (λ n. refl) (length script.targets) t no_worker here))
        (subst (λ (z : List ℕ). 0 + owed_by (0 == c) Look (slice_index z (at c 0)) ≤ tally_all script t c (start_world policies script).threads) (sym same)
        (nothing (owed_by (0 == c) Look (slice_index (free_channels n) (at c 0))) (tally_all script t c (start_world policies script).threads)
        (looking_owed (0 == c) (slice_index (free_channels n) (at c 0)) ∙ state)));
  }
    where
      nothing : (a b : ℕ) → a ≡ 0 → 0 + a ≤ b
      nothing a b e = omega (arith, e)

  pub tallied_of : (w : WorldAt) → IsOfScript script w → Keeps script (Tallied script) w
  tallied_of w o =
      holds_on targets statements script (Tallied script) (tallied_worker script) tallied_thread o.policies o.ready (tallied_start o.policies o.ready) w (leads_of script w o)

-- if no thread is within a call the weights are the tallies of the results
pub record Outside (script : Script) (c u k : ℕ) (x : RunAt) : Type 0 where
  pub its_target : x.thread.target ≡ u
  pub its_number : x.thread.thread ≡ k
  pub not_sent : has_sent c x.thread.stage ≡ false

next : (k j : ℕ) → k + suc j ≡ (k + 1) + j
next k j = omega arith

one_weight : (script : Script) (t c u k : ℕ) (x : RunAt) → Outside script c u k x → tally_so_far script t c x ≡ tally_from script t c u k 0 x.results
one_weight script t c u k x o =
    let none = none_here (x.thread.target == t) (has_sent c x.thread.stage) o.not_sent in
    let same : tally_from script t c x.thread.target x.thread.thread 0 x.results ≡ tally_from script t c u k 0 x.results =
    ap (λ (q : ℕ × ℕ). tally_from script t c q.0 q.1 0 x.results) (λ j. (o.its_target j, o.its_number j)) in
    omega (arith, none, same)
  where
    none_here : (a b : Bool) → b ≡ false → one_if (a && b) ≡ 0
    none_here true b e = ap one_if e
    none_here false b e = refl

rows_weight : (script : Script) (t c u k : ℕ) (runs : List RunAt) → ((j : ℕ) → j < length runs → Outside script c u (k + j) (get_or runs j no_run))
    → tally_row script t c runs ≡ tally_threads script t c u k (map (λ x. x.results) runs)
rows_weight script t c u k [] each = refl
rows_weight script t c u k (x ∷ runs) each =
    let first = one_weight script t c u k x (subst (λ z. Outside script c u z x) (sym (plus_none k)) (each 0 (omega arith))) in
    let rest = rows_weight script t c u (k + 1) runs (λ j l. subst (λ z. Outside script c u z (get_or runs j no_run)) (next k j) (each (suc j) (omega (arith, l)))) in
    let both = sum_by-cons (tally_so_far script t c) x runs in
    omega (arith, first, rest, both)

all_weight : (script : Script) (t c u : ℕ) (threads : List (List RunAt)) → ((i j : ℕ) → j < length (get_or threads i []) → Outside script c (u + i) j (get_or (get_or threads i []) j no_run))
    → tally_all script t c threads ≡ tally_targets script t c u (results_of threads)
all_weight script t c u [] each = refl
all_weight script t c u (runs ∷ threads) each =
    let first = rows_weight script t c u 0 runs (λ j l. subst (λ (z : ℕ × ℕ). Outside script c z.0 z.1 (get_or runs j no_run)) (λ q. (sym (plus_none u) q, from_zero j j refl q)) (each 0 j l)) in
    let rest = all_weight script t c (u + 1) threads (λ i j l. subst (λ z. Outside script c z j (get_or (get_or threads i []) j no_run)) (next u i) (each (suc i) j l)) in
    let both = sum_by-cons (tally_row script t c) runs threads in
    omega (arith, first, rest, both)

-- on a channel of a world of a script
few_so_far : SoundTargets → SoundStatements → (script : Script) (w : WorldAt) → Keeps script (Tallied script) w → (t c : ℕ) → t < length script.targets → c < channels_of (slice_get script.targets t)
    → entries_on t c w.shared.book.entries ≤ tally_all script t c w.threads
few_so_far targets statements script w is t c l m =
    let there = subst (λ n. t < n) (sym (as_many script w is.kept is.runs)) l in
    let size = (targets_there script w is.kept is.runs t l).sized in
    let few = is.has.few t c there (omega (arith, size, m)) in
    at_most _ _ _ few
  where
    at_most : (a b d : ℕ) → a + b ≤ d → a ≤ d
    at_most a b d p = omega (arith, p)

module _ (targets : SoundTargets) (statements : SoundStatements) (policies : List Policy) (script : Script) (schedule : Schedule) (can : CanRun policies script schedule)
    (finished : first_unfinished script (played policies script schedule).threads ≡ None) where
  abbrev w : WorldAt
  w = drained (played policies script schedule)

  is : Keeps script (Tallied script) w
  is = tallied_of targets statements script w (of_end targets statements policies script schedule can)

  same_threads : w.threads ≡ (played policies script schedule).threads
  same_threads = drained_threads (played policies script schedule)

  outside : (c i j : ℕ) → j < length (threads_at w i) → Outside script c (0 + i) j (run_at w i j)
  outside c i j l =
      let its = is.kept.threads i j l in
      let x = (run_at w i j).thread in
      let over = each_finished script w.threads (ap (λ threads. first_unfinished script threads) same_threads ∙ finished) i j l in
      let last = (is.runs.stands i j l).over ∙ none_behind (statements_of script x.target x.thread) x.place over in
      record { its_target = its.its_target ∙ from_zero i i refl; its_number = its.its_number; not_sent = ap (λ s. has_sent c s) (over_is x.stage last) }

  few_entries : (t c : ℕ) → t < length script.targets → c < channels_of (slice_get script.targets t)
      → entries_on t c w.shared.book.entries ≤ tally_targets script t c 0 (results_of (played policies script schedule).threads)
  few_entries t c l m =
      let few = few_so_far targets statements script w is t c l m in
      let all = all_weight script t c 0 w.threads (outside c) in
      let same : tally_targets script t c 0 (results_of w.threads) ≡ tally_targets script t c 0 (results_of (played policies script schedule).threads) =
      ap (λ (threads : List (List RunAt)). tally_targets script t c 0 (results_of threads)) same_threads in
      at_most _ _ _ _ few all same
    where
      at_most : (a d e f : ℕ) → a ≤ d → d ≡ e → e ≡ f → a ≤ f
      at_most a d e f p q r = omega (arith, p, q, r)

pub worlds_are_few : SoundTargets → SoundStatements → WorldsAreFew
worlds_are_few targets statements script w o = few_so_far targets statements script w (tallied_of targets statements script w o)

pub entries_are_few : SoundTargets → SoundStatements → EntriesAreFew
entries_are_few targets statements policies script schedule can all_ended t c l m =
    by_finish (first_unfinished script (played policies script schedule).threads) refl all_ended
  where
    by_finish : (o : Option (ℕ × ℕ)) → first_unfinished script (played policies script schedule).threads ≡ o → (ended (played policies script schedule) o).unfinished ≡ None
        → entries_on t c (ended (played policies script schedule) o).report.entries ≤ tally_targets script t c 0 (ended (played policies script schedule) o).report.results
    by_finish None e u = few_entries targets statements policies script schedule can e t c l m
    by_finish (Some thread) e u = absurd (cc)
