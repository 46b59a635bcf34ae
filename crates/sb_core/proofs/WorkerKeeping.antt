-- A step of a worker keeps what every world keeps.
use Rattle.std.proofs.Common.{◌≡◌, ◌≢◌, ◌∙◌, refl, ap, subst, sym, ℕ, ◌+◌, ◌*◌, ◌<◌, ◌≤◌, Bool, true, false, ◌==◌, if◌then◌else◌, List, [], ◌∷◌, ◌++◌, length, length-append, length-set, set, get_or, get_or-set_same, get_or-set_other, Option, None, Some, lit<, arith, ◌%◌}
use Rattle.std.proofs.lemmas.Nat.{mod_below}
use Rattle.sb_core.proofs.Names.{Ack, after_reply, Answer, channels_at, Copied, copied, Copy, Count, Decision, End, exchanged, Give, has_turn, is_copy, is_end, is_holder, IsReplyTo, IsRunOf, IsSoundStage, IsWorkerOf, IsWorld, loaded, Look, look_next, mark_of, nat_lt, nat_tests, no_worker, offset_of, on_worker, place_of, Refused, reply_of, reply_words, run_at, SharedAt, slice_index, Space, stored, Take, target_decision, threads_at, Word, words_of, worker_after, worker_at, worker_goes, worker_plan, worker_step, worker_step_of, WorkerAt, WorkerStage, WorkerStep, WorldAt, ℕ_discrete}
use Rattle.sb_actor.specs.Acts.{ready}
use Rattle.sb_actor.specs.WorkerStages.{Reply}
use Rattle.sb_core.proofs.Sets.{set_same, sizes_set}
use Rattle.sb_core.proofs.Existence.{its_own, words_listed, run_kept, worker_kept}
use Rattle.sb_core.proofs.Numbers.{apart, is_same, none_some, not_same, self_same, some_same}

-- What a step of a target's worker leaves that the world needs: the setting and the sizes of the words as they were, the worker at one of its
-- channels with its numbers in range, and the turn with it exactly if its stage says so, and else with whom it was
pub record Moves (w : WorldAt) (t : ℕ) (y : WorkerAt) (s : SharedAt) : Type 0 where
  pub setting : s.book.setting ≡ w.shared.book.setting
  pub count : length s.words ≡ length w.shared.words
  pub sizes : (u : ℕ) → length (words_of s.words u) ≡ length (words_of w.shared.words u)
  pub its_target : y.target ≡ t
  pub its_channels : y.channels ≡ channels_at w t
  pub within : y.channel < y.channels
  pub few : y.channels ≤ 8
  pub sound : IsSoundStage y.stage
  pub turn : has_turn y.stage ≡ is_holder s.turn t
  pub others : (u : ℕ) → u ≢ t → is_holder s.turn u ≡ is_holder w.shared.turn u
  pub holder : (u : ℕ) → s.turn ≡ Some u → u < length w.workers

abbrev after : WorldAt → ℕ → WorkerAt → SharedAt → WorldAt
after w t y s = record w { shared = s; workers = set w.workers t y }

module _ (w : WorldAt) (t : ℕ) (y : WorkerAt) (s : SharedAt) (kept : IsWorld w) (there : t < length w.workers) (m : Moves w t y s) where
  channels_stay : (u : ℕ) → channels_at (after w t y s) u ≡ channels_at w u
  channels_stay u = ap (λ setting. slice_index setting.channels u) m.setting

  this : IsWorkerOf (after w t y s) t y
  this = record {
    its_target = m.its_target;
    its_channels = m.its_channels ∙ sym (channels_stay t);
    within = m.within;
    few = m.few;
    sound = m.sound;
    sized = m.sizes t ∙ ((kept.workers t there).sized ∙ ap (λ z. z * 65) ((kept.workers t there).its_channels ∙ sym m.its_channels));
    turn = m.turn;
  }

  other : (u : ℕ) → u < length w.workers → u ≢ t → IsWorkerOf (after w t y s) u (worker_at w u)
  other u l n = worker_kept w (after w t y s) u (worker_at w u) (channels_stay u) (m.sizes u) (m.others u n) (kept.workers u l)

  each : (u : ℕ) → u < length w.workers → Dec (u ≡ t) → IsWorkerOf (after w t y s) u (get_or (set w.workers t y) u no_worker)
  each u l (yes e) =
      subst (λ z. IsWorkerOf (after w t y s) z (get_or (set w.workers t y) z no_worker)) (sym e)
      (subst (λ z. IsWorkerOf (after w t y s) t z) (sym (get_or-set_same w.workers t y no_worker there)) this)
  each u l (no n) =
      subst (λ z. IsWorkerOf (after w t y s) u z) (sym (get_or-set_other w.workers t u y no_worker n)) (other u l n)

  run : (u k : ℕ) → k < length (threads_at w u) → IsRunOf (after w t y s) u k (run_at w u k)
  run u k l = run_kept w (after w t y s) u k (run_at w u k) (channels_stay u) (kept.threads u k l)

  pub moved : IsWorld (after w t y s)
  moved =
      let same = length-set w.workers t y in
      record {
        few = subst (λ n. n ≤ 8) (sym same) kept.few;
        policies = ap (λ setting. length setting.policies) m.setting ∙ (kept.policies ∙ sym same);
        channels = ap (λ setting. length setting.channels) m.setting ∙ (kept.channels ∙ sym same);
        words = m.count ∙ (kept.words ∙ sym same);
        holder = λ u e. subst (λ n. u < n) (sym same) (m.holder u e);
        workers = λ u l. each u (subst (λ n. u < n) same l) (ℕ_discrete u t);
        lists = subst (λ n. length w.threads ≤ n) (sym same) kept.lists;
        threads = λ u k l. run u k l;
      }

-- a reply has the mark that it was made for
replies_bear : (ns : Space) (target mark : ℕ) (d : Decision) → (reply_of ns target mark d).mark ≡ mark
replies_bear ns target mark (Refused f) = refl
replies_bear ns target mark _ = refl

-- tests of numbers
below_ten : (count : ℕ) → nat_lt 9 count ≡ false → count ≤ 9
below_ten count e = grind (arith, nat_tests)

end_within : (count end : ℕ) → is_end count end ≡ true → (16 + count ≤ end) × (end ≤ 64)
end_within count end h = (grind (arith, nat_tests), grind (arith, nat_tests))

-- copies that are whole, or ended before their first word
many_copied : (count : ℕ) → nat_lt 9 count ≡ true → is_copy (copied count 0 []) ≡ true
many_copied count e = rw e refl

none_copied : (count end : ℕ) → count ≤ 9 → is_end count end ≡ false → is_copy (copied count end []) ≡ true
none_copied count end low e = let few : nat_lt 9 count ≡ false = grind (arith, nat_tests, low) in rw (few, e) refl

all_copied : (count end : ℕ) (words : List ℕ) → count ≤ 9 → 16 + count ≤ end → end ≤ 64 → (length words == end) ≡ true → is_copy (copied count end words) ≡ true
all_copied count end words low first last e =
    let few : nat_lt 9 count ≡ false = grind (arith, nat_tests, low) in
    let right : is_end count end ≡ true = grind (arith, nat_tests, first, last) in
    rw (few, right) e

-- a worker at a stage, in a world that is kept
module _ (w : WorldAt) (t channels c : ℕ) (kept : IsWorld w) (there : t < length w.workers) (its : channels ≡ channels_at w t) (within : c < channels) (few : channels ≤ 8)
    (sized : length (words_of w.shared.words t) ≡ channels * 65) where
  abbrev at_this : WorkerStage → WorkerAt
  at_this stage = record { target = t; channels = channels; channel = c; stage = stage }

  -- the worker at one of its channels, with what all share after the step
  at_channel : (d : ℕ) (stage : WorkerStage) (s : SharedAt) → d < channels → IsSoundStage stage → s.book.setting ≡ w.shared.book.setting → length s.words ≡ length w.shared.words
      → ((u : ℕ) → length (words_of s.words u) ≡ length (words_of w.shared.words u)) → has_turn stage ≡ is_holder s.turn t
      → ((u : ℕ) → u ≢ t → is_holder s.turn u ≡ is_holder w.shared.turn u) → ((u : ℕ) → s.turn ≡ Some u → u < length w.workers)
      → Moves w t (record { target = t; channels = channels; channel = d; stage = stage }) s
  at_channel d stage s inside sound setting count sizes turn others holder = record {
    setting = setting;
    count = count;
    sizes = sizes;
    its_target = refl;
    its_channels = its;
    within = inside;
    few = few;
    sound = sound;
    turn = turn;
    others = others;
    holder = holder;
  }

  -- the worker goes on, and what all share stays
  stays : (stage : WorkerStage) → IsSoundStage stage → has_turn stage ≡ is_holder w.shared.turn t → Moves w t (at_this stage) w.shared
  stays stage sound turn = at_channel c stage w.shared within sound refl refl (λ u. refl) turn (λ u n. refl) kept.holder

  -- the worker looks at the next channel
  looks_on : false ≡ is_holder w.shared.turn t → Moves w t (look_next (at_this Look)) w.shared
  looks_on turn = at_channel ((c + 1) % channels) Look w.shared (mod_below (c + 1) channels (omega (arith, within))) tt refl refl (λ u. refl) turn (λ u n. refl) kept.holder

  -- the words of the target change, and keep their number
  writes : (y : WorkerAt) (new : List ℕ) → Moves w t y w.shared → length new ≡ length (words_of w.shared.words t)
      → Moves w t y (record w.shared { words = set w.shared.words t new })
  writes y new m e = record {
    setting = refl;
    count = length-set w.shared.words t new;
    sizes = sizes_set w.shared.words t new (words_listed w t kept there) e;
    its_target = m.its_target;
    its_channels = m.its_channels;
    within = m.within;
    few = m.few;
    sound = m.sound;
    turn = m.turn;
    others = m.others;
    holder = m.holder;
  }

  looked : (b : Bool) → false ≡ is_holder w.shared.turn t → Moves w t (if b then at_this Count else look_next (at_this Look)) w.shared
  looked true turn = stays Count tt turn
  looked false turn = looks_on turn

  counted : (count : ℕ) (b : Bool) → nat_lt 9 count ≡ b → false ≡ is_holder w.shared.turn t
      → Moves w t (at_this (if b then Take (copied count 0 []) else End count)) w.shared
  counted count true e turn = stays (Take (copied count 0 [])) (many_copied count e) turn
  counted count false e turn = stays (End count) (below_ten count e) turn

  ended : (count end : ℕ) → count ≤ 9 → (b : Bool) → is_end count end ≡ b → false ≡ is_holder w.shared.turn t
      → Moves w t (at_this (if b then Copy count end [] else Take (copied count end []))) w.shared
  ended count end low true e turn =
      let within = end_within count end e in
      let first = within.0 in
      let second = within.1 in
      stays (Copy count end []) (low, first, second, omega (arith, first)) turn
  ended count end low false e turn = stays (Take (copied count end [])) (none_copied count end low e) turn

  copied_on : (count end : ℕ) (words : List ℕ) → IsSoundStage (Copy count end words) → (x : ℕ) → (b : Bool) → (length (words ++ x ∷ []) == end) ≡ b
      → false ≡ is_holder w.shared.turn t
      → Moves w t (at_this (if b then Take (copied count end (words ++ x ∷ [])) else Copy count end (words ++ x ∷ []))) w.shared
  copied_on count end words s x true e turn = stays (Take (copied count end (words ++ x ∷ []))) (all_copied count end (words ++ x ∷ []) s.0 s.1 s.2 e) turn
  copied_on count end words s x false e turn =
      let longer = length-append words (x ∷ []) in
      let ne = not_same (length (words ++ x ∷ [])) end e in
      let below = s.3 in
      stays (Copy count end (words ++ x ∷ [])) (s.0, s.1, s.2, omega (arith, longer, ne, below)) turn

  replied_on : (taken : Copied) (reply : List ℕ) (at : ℕ) → IsSoundStage (Reply taken reply at) → (b : Bool) → (at == 11) ≡ b
      → false ≡ is_holder w.shared.turn t → Moves w t (at_this (if b then Ack taken reply else Reply taken reply (at + 1))) w.shared
  replied_on taken reply at s true e turn = stays (Ack taken reply) s.1 turn
  replied_on taken reply at s false e turn =
      let ne = not_same at 11 e in
      let below = s.0 in
      stays (Reply taken reply (at + 1)) (omega (arith, ne, below), s.1) turn

  -- by whether somebody has the turn
  took : (taken : Copied) → is_copy taken ≡ true → (turn : Option ℕ) → w.shared.turn ≡ turn → false ≡ is_holder w.shared.turn t
      → Moves w t (worker_after (at_this (Take taken)) (on_worker w.shared t (at_this (Take taken)) (worker_plan (at_this (Take taken)))).seen)
      (on_worker w.shared t (at_this (Take taken)) (worker_plan (at_this (Take taken)))).shared
  took taken rule None e turn =
      subst (λ (z : Option ℕ). Moves w t (worker_after (at_this (Take taken)) (on_worker (record w.shared { turn = z }) t (at_this (Take taken)) (worker_plan (at_this (Take taken)))).seen)
      (on_worker (record w.shared { turn = z }) t (at_this (Take taken)) (worker_plan (at_this (Take taken)))).shared)
      (sym e)
      (at_channel c (Answer taken) (record w.shared { turn = Some t }) within rule refl refl (λ u. refl) (sym (self_same t))
      (λ u n. apart t u n ∙ ap (λ (z : Option ℕ). is_holder z u) (sym e)) (λ u f. subst (λ z. z < length w.workers) (some_same t u f) there))
  took taken rule (Some holder) e turn =
      subst (λ (z : Option ℕ). Moves w t (worker_after (at_this (Take taken)) (on_worker (record w.shared { turn = z }) t (at_this (Take taken)) (worker_plan (at_this (Take taken)))).seen)
      (on_worker (record w.shared { turn = z }) t (at_this (Take taken)) (worker_plan (at_this (Take taken)))).shared)
      (sym e)
      (at_channel c (Take taken) (record w.shared { turn = Some holder }) within rule refl refl (λ u. refl) (turn ∙ ap (λ (z : Option ℕ). is_holder z t) e)
      (λ u n. ap (λ (z : Option ℕ). is_holder z u) (sym e)) (λ u f. kept.holder u (e ∙ f)))

  -- the holder alone has the turn
  alone : (turn : Option ℕ) → w.shared.turn ≡ turn → true ≡ is_holder turn t → (u : ℕ) → u ≢ t → is_holder None u ≡ is_holder turn u
  alone None e h u n = refl
  alone (Some holder) e h u n =
      let same = is_same holder t (sym h) in
      sym (subst (λ z. (z == u) ≡ false) (sym same) (apart t u n))

  gave : (taken : Copied) (reply : List ℕ) → IsReplyTo taken reply → true ≡ is_holder w.shared.turn t
      → Moves w t (at_this (Reply taken reply 0)) (record w.shared { turn = None })
  gave taken reply bears turn =
      at_channel c (Reply taken reply 0) (record w.shared { turn = None }) within (lit< tt, bears) refl refl (λ u. refl) refl (λ u n. alone w.shared.turn refl turn u n)
      (λ u f. absurd (none_some u f))

  marks : (taken : Copied) → true ≡ is_holder w.shared.turn t
      → Moves w t (worker_after (at_this (Answer taken)) (on_worker w.shared t (at_this (Answer taken)) (worker_plan (at_this (Answer taken)))).seen)
      (on_worker w.shared t (at_this (Answer taken)) (worker_plan (at_this (Answer taken)))).shared
  marks taken turn =
      at_channel c (Give taken (reply_words (reply_of w.shared.book.space t (mark_of taken) (target_decision w.shared.book t taken))))
      (on_worker w.shared t (at_this (Answer taken)) (worker_plan (at_this (Answer taken)))).shared within
      (record { size = refl; mark = replies_bear w.shared.book.space t (mark_of taken) (target_decision w.shared.book t taken) }) refl refl (λ u. refl) turn (λ u n. refl) kept.holder

  -- each row
  pub step_moves : (stage : WorkerStage) → IsSoundStage stage → has_turn stage ≡ is_holder w.shared.turn t
      → Moves w t (worker_after (at_this stage) (on_worker w.shared t (at_this stage) (worker_plan (at_this stage))).seen)
      (on_worker w.shared t (at_this stage) (worker_plan (at_this stage))).shared
  step_moves Look s turn = looked (loaded (words_of w.shared.words t) (record { channel = c; at = 0 }) == ready) turn
  step_moves Count s turn =
      let count = loaded (words_of w.shared.words t) (record { channel = c; at = 1 + 2 }) in counted count (nat_lt 9 count) refl turn
  step_moves (End count) s turn =
      let end = offset_of (loaded (words_of w.shared.words t) (record { channel = c; at = 1 + (15 + count) })) in ended count end s (is_end count end) refl turn
  step_moves (Copy count end copy) s turn =
      let x = loaded (words_of w.shared.words t) (record { channel = c; at = 1 + length copy }) in
      copied_on count end copy s x (length (copy ++ x ∷ []) == end) refl turn
  step_moves (Take taken) s turn = took taken s w.shared.turn refl turn
  step_moves (Answer taken) s turn = marks taken turn
  step_moves (Give taken reply) s turn = gave taken reply s turn
  step_moves (Reply taken reply at) s turn =
      writes (at_this (after_reply taken reply at)) (stored (words_of w.shared.words t) (record { channel = c; at = 1 + (3 + at) }) (slice_index reply at))
      (replied_on taken reply at s (at == 11) refl turn) (length-set (words_of w.shared.words t) (place_of (record { channel = c; at = 1 + (3 + at) })) (slice_index reply at))
  step_moves (Ack taken reply) s turn =
      let words = words_of w.shared.words t in
      let word : Word = record { channel = c; at = 0 } in
      writes (look_next (at_this Look)) (stored words word (exchanged (loaded words word) 3 4)) (looks_on turn)
      (length-set words (place_of word) (exchanged (loaded words word) 3 4))

-- what a step of the worker of a target leaves
own_moves : (w : WorldAt) (t : ℕ) → IsWorld w → t < length w.workers
    → Moves w t (worker_after (worker_at w t) (on_worker w.shared t (worker_at w t) (worker_plan (worker_at w t))).seen) (on_worker w.shared t (worker_at w t) (worker_plan (worker_at w t))).shared
own_moves w t kept there =
    let x = kept.workers t there in
    subst (λ (z : WorkerAt). Moves w t (worker_after z (on_worker w.shared t z (worker_plan z)).seen) (on_worker w.shared t z (worker_plan z)).shared) (sym (its_own w t kept there))
    (step_moves w t (worker_at w t).channels (worker_at w t).channel kept there x.its_channels x.within x.few x.sized (worker_at w t).stage x.sound x.turn)

pub worker_keeps : (w : WorldAt) (t : ℕ) → IsWorld w → t < length w.workers → IsWorld (worker_step w t)
worker_keeps w t kept there = moved w t _ _ kept there (own_moves w t kept there)

-- and the setting of its book, which is all that a judge depends on
pub worker_setting : (w : WorldAt) (t : ℕ) → IsWorld w → t < length w.workers → (worker_step w t).shared.book.setting ≡ w.shared.book.setting
worker_setting w t kept there = (own_moves w t kept there).setting

-- the number of words of each target
pub worker_sizes : (w : WorldAt) (t : ℕ) → IsWorld w → t < length w.workers → (u : ℕ) → length (words_of (worker_step w t).shared.words u) ≡ length (words_of w.shared.words u)
worker_sizes w t kept there u = (own_moves w t kept there).sizes u

-- what a step of a worker left, by the worker that was found
pub worker_left : (w : WorldAt) (t : ℕ) (x z : WorkerAt) (s : SharedAt) → x ≡ worker_at w t → worker_step_of w.shared t x ≡ record { shared = s; worker = z }
    → record w { shared = s; workers = set w.workers t z } ≡ worker_step w t
worker_left w t x z s e made =
    sym (ap (λ (m : WorkerStep). record w { shared = m.shared; workers = set w.workers t m.worker }) made)
    ∙ ap (λ (y : WorkerAt). worker_goes w t y (on_worker w.shared t y (worker_plan y))) e

-- and if it left everything as it was
pub worker_stays : (w : WorldAt) (t : ℕ) (x z : WorkerAt) (s : SharedAt) → x ≡ worker_at w t → s ≡ w.shared → z ≡ x
    → record w { shared = s; workers = set w.workers t z } ≡ w
worker_stays w t x z s e shared same =
    (λ i. record w { shared = shared i; workers = set w.workers t (same i) })
    ∙ ap (λ (workers : List WorkerAt). record w { workers = workers }) (set_same w.workers t x no_worker e)
