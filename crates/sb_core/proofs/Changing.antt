-- What a step changes.
use Rattle.std.proofs.Common.{◌≡◌, ◌≢◌, ◌∙◌, refl, ap, subst, sym, ℕ, ◌<◌, ◌≤◌, Bool, true, false, ltb, ◌==◌, ◌&&◌, ◌++◌, List, [], length, set, get_or, get_or-set_same, get_or-set_other, None, arith}
use Rattle.std.proofs.lemmas.List.{set_past}
use Rattle.sb_core.proofs.Names.{Ack, Act, Answer, append-nil, exchanged, Give, is_answer, IsActThere, IsOneMore, loaded, Look, moves_turn, nat_tests, no_run, no_worker, on_word, on_worker, option_to_list, place_of, run_at, RunAt, Script, SharedAt, slice_index, SoundStatements, StepsChangeLittle, StmtResult, stored, Take, Thread, thread_after, thread_plan, threads_at, Word, words_of, Worker, worker_at, worker_plan, WorkerAt, WorkerStage, WorldAt, writes, ℕ_discrete}
use Rattle.sb_actor.specs.WorkerStages.{Reply}
use Rattle.sb_actor.specs.declared.acts.Act.TheVariants as act
use Rattle.sb_core.proofs.Running.{thread_is_there, worker_is_there}
use Rattle.sb_core.proofs.Existence.{listed, thread_there, worker_there}
use Rattle.sb_core.proofs.ThreadKeeping.{word_keeps}

-- a word that is not written
module _ (words : List (List ℕ)) (t : ℕ) (word : Word) (there : t < length words) where
  unwritten : (new : List ℕ) → ((i : ℕ) → place_of word ≢ i → slice_index new i ≡ slice_index (words_of words t) i)
      → (u i : ℕ) → (t == u && place_of word == i) ≡ false → slice_index (words_of (set words t new) u) i ≡ slice_index (words_of words u) i
  unwritten new same u i e = by_place (ℕ_discrete u t)
    where
      by_place : Dec (u ≡ t) → slice_index (words_of (set words t new) u) i ≡ slice_index (words_of words u) i
      by_place (yes s) =
          let apart : place_of word ≢ i = grind (arith, nat_tests, e, s) in
          subst (λ z. slice_index (words_of (set words t new) z) i ≡ slice_index (words_of words z) i) (sym s)
          (ap (λ (ws : List ℕ). slice_index ws i) (get_or-set_same words t new [] there) ∙ same i apart)
      by_place (no n) = ap (λ (ws : List ℕ). slice_index ws i) (get_or-set_other words t u new [] n)

  store_else : (value i : ℕ) → place_of word ≢ i → slice_index (stored (words_of words t) word value) i ≡ slice_index (words_of words t) i
  store_else value i n = get_or-set_other (words_of words t) (place_of word) i value 0 (λ e. n (sym e))

-- a step on words
word_else : (s : SharedAt) (a : Act) → IsActThere s.words a → (t i : ℕ) → writes a t i ≡ false
    → slice_index (words_of (on_word s a).shared.words t) i ≡ slice_index (words_of s.words t) i
word_else s (act.Store target word value) h t i e =
    unwritten s.words target word h.listed (stored (words_of s.words target) word value) (store_else s.words target word h.listed value) t i e
word_else s (act.Exchange target word from to) h t i e =
    let value = exchanged (loaded (words_of s.words target) word) from to in
    unwritten s.words target word h.listed (stored (words_of s.words target) word value) (store_else s.words target word h.listed value) t i e
word_else s _ h t i e = refl

-- no result more
as_it_was : (xs : List StmtResult) → IsOneMore xs xs
as_it_was xs = (None, sym (append-nil xs))

-- a step of a worker, stage by stage
module _ (script : Script) (w : WorldAt) (t : ℕ) (x : WorkerAt) where
  abbrev at_this : WorkerStage → WorkerAt
  at_this stage = record x { stage = stage }

  abbrev shared_after : WorkerStage → SharedAt
  shared_after stage = (on_worker w.shared t (at_this stage) (worker_plan (at_this stage))).shared

  worker_words : (stage : WorkerStage) → IsActThere w.shared.words (worker_plan (at_this stage)) → (u i : ℕ) → writes (worker_plan (at_this stage)) u i ≡ false
      → slice_index (words_of (shared_after stage).words u) i ≡ slice_index (words_of w.shared.words u) i
  worker_words (Reply taken reply at) h u i e = word_else w.shared (worker_plan (at_this (Reply taken reply at))) h u i e
  worker_words (Ack taken reply) h u i e = word_else w.shared (worker_plan (at_this (Ack taken reply))) h u i e
  worker_words _ h u i e = refl

  worker_sizes : (stage : WorkerStage) → IsActThere w.shared.words (worker_plan (at_this stage)) → (u : ℕ)
      → length (words_of (shared_after stage).words u) ≡ length (words_of w.shared.words u)
  worker_sizes (Reply taken reply at) h u = (word_keeps w.shared (worker_plan (at_this (Reply taken reply at))) h).sizes u
  worker_sizes (Ack taken reply) h u = (word_keeps w.shared (worker_plan (at_this (Ack taken reply))) h).sizes u
  worker_sizes _ h u = refl

  worker_turn : (stage : WorkerStage) → moves_turn (worker_plan (at_this stage)) ≡ false → (shared_after stage).turn ≡ w.shared.turn
  worker_turn (Take taken) e = absurd (cc)
  worker_turn (Give taken reply) e = absurd (cc)
  worker_turn _ e = refl

  worker_book : (stage : WorkerStage) → is_answer (worker_plan (at_this stage)) ≡ false → (shared_after stage).book ≡ w.shared.book
  worker_book (Answer taken) e = absurd (cc)
  worker_book _ e = refl

  worker_book_setting : (stage : WorkerStage) → (shared_after stage).book.setting ≡ w.shared.book.setting
  worker_book_setting Look = refl
  worker_book_setting _ = refl

-- the target and the number of a thread
pub thread_parts : (t k u j : ℕ) → Thread t k ≡ Thread u j → (t ≡ u) × (k ≡ j)
thread_parts t k u j e = (cc, cc)

-- two threads that are not the same have another target or another number
pub other_run : (w : WorldAt) (t k : ℕ) (y : RunAt) (u j : ℕ) → Thread t k ≢ Thread u j
    → get_or (get_or (set w.threads t (set (threads_at w t) k y)) u []) j no_run ≡ run_at w u j
other_run w t k y u j n = by_target (ℕ_discrete u t)
  where
    by_target : Dec (u ≡ t) → get_or (get_or (set w.threads t (set (threads_at w t) k y)) u []) j no_run ≡ run_at w u j
    by_target (no ne) = ap (λ (row : List RunAt). get_or row j no_run) (get_or-set_other w.threads t u (set (threads_at w t) k y) [] ne)
    by_target (yes s) =
        let apart : j ≢ k = λ e. n (ap (λ (z : ℕ × ℕ). Thread z.0 z.1) (λ q. (sym s q, sym e q))) in
        by_row (ltb t (length w.threads)) refl apart
      where
        by_row : (b : Bool) → ltb t (length w.threads) ≡ b → j ≢ k → get_or (get_or (set w.threads t (set (threads_at w t) k y)) u []) j no_run ≡ run_at w u j
        by_row true e apart =
            let there : t < length w.threads = grind (arith, nat_tests) in
            subst (λ z. get_or (get_or (set w.threads t (set (threads_at w t) k y)) z []) j no_run ≡ run_at w z j) (sym s)
            (ap (λ (row : List RunAt). get_or row j no_run) (get_or-set_same w.threads t (set (threads_at w t) k y) [] there)
            ∙ get_or-set_other (threads_at w t) k j y no_run apart)
        by_row false e apart =
            let past : length w.threads ≤ t = grind (arith, nat_tests) in
            ap (λ (rows : List (List RunAt)). get_or (get_or rows u []) j no_run) (set_past w.threads t (set (threads_at w t) k y) past)

-- the results of a thread after the step of one
results_more : (w : WorldAt) (t k : ℕ) (y : RunAt) → t < length w.threads → k < length (threads_at w t) → IsOneMore (run_at w t k).results y.results
    → (u j : ℕ) → IsOneMore (run_at w u j).results (get_or (get_or (set w.threads t (set (threads_at w t) k y)) u []) j no_run).results
results_more w t k y here there more u j = by_target (ℕ_discrete u t) (ℕ_discrete j k)
  where
    same : Thread t k ≢ Thread u j → IsOneMore (run_at w u j).results (get_or (get_or (set w.threads t (set (threads_at w t) k y)) u []) j no_run).results
    same n = subst (λ (x : RunAt). IsOneMore (run_at w u j).results x.results) (sym (other_run w t k y u j n)) (as_it_was (run_at w u j).results)

    by_target : Dec (u ≡ t) → Dec (j ≡ k) → IsOneMore (run_at w u j).results (get_or (get_or (set w.threads t (set (threads_at w t) k y)) u []) j no_run).results
    by_target (yes s) (yes r) =
        subst (λ (z : ℕ × ℕ). IsOneMore (run_at w z.0 z.1).results (get_or (get_or (set w.threads t (set (threads_at w t) k y)) z.0 []) z.1 no_run).results)
        (λ q. (sym s q, sym r q))
        (subst (λ (row : List RunAt). IsOneMore (run_at w t k).results (get_or row k no_run).results)
        (sym (get_or-set_same w.threads t (set (threads_at w t) k y) [] here))
        (subst (λ (x : RunAt). IsOneMore (run_at w t k).results x.results) (sym (get_or-set_same (threads_at w t) k y no_run there)) more))
    by_target (no n) d = same (λ e. n (sym (thread_parts t k u j e).0))
    by_target (yes s) (no n) = same (λ e. n (sym (thread_parts t k u j e).1))

pub steps_change_little : SoundStatements → StepsChangeLittle
steps_change_little law script w (Worker t) kept runs e =
    let there = worker_is_there script w t kept runs e in
    let h = worker_there w t kept there in
    let x = worker_at w t in
    record {
      words = worker_words script w t x x.stage h;
      sizes = worker_sizes script w t x x.stage h;
      turn = worker_turn script w t x x.stage;
      book = worker_book script w t x x.stage;
      setting = worker_book_setting script w t x x.stage;
      workers = λ u n. get_or-set_other w.workers t u _ no_worker (λ s. n (ap Worker (sym s)));
      threads = λ u j n. refl;
      results = λ u j. as_it_was (run_at w u j).results;
    }
steps_change_little law script w (Thread t k) kept runs e =
    let there = thread_is_there script w t k runs e in
    let x = run_at w t k in
    let a = thread_plan script x.thread in
    let h = thread_there script w kept runs t k there law in
    let keeps = word_keeps w.shared a h in
    let next = thread_after script x.thread (on_word w.shared a).seen in
    let y : RunAt = record { thread = next.thread; results = x.results ++ option_to_list next.ended } in
    record {
      words = word_else w.shared a h;
      sizes = keeps.sizes;
      turn = λ f. keeps.turn;
      book = λ f. keeps.book;
      setting = ap (λ book. book.setting) keeps.book;
      workers = λ u n. refl;
      threads = λ u j n. other_run w t k y u j n;
      results = results_more w t k y (listed w.threads t k there) there (next.ended, refl);
    }
