-- Moves of words in a row.
use Rattle.std.specs.Prelude.{is_some, nat_lt}
use Rattle.std.proofs.Common.{◌≡◌, ◌∙◌, ℕ, zero, suc, ◌+◌, ◌-◌, ◌<◌, Bool, true, false, ◌==◌, List, [], ◌∷◌, ◌++◌, drop, length, Option, None, Some, refl, sym, ap, arith}
use Rattle.std.proofs.lemmas.Bool.{false≢true}
use Rattle.std.proofs.lemmas.Bool.Decides.{nat_tests}
use Rattle.std.proofs.lemmas.List.{length-append}
use Rattle.sb_call.specs.declared.replies.Reply.{Reply as HostReply}
use Rattle.sb_block.specs.Copies.{is_end}
use Rattle.sb_block.specs.Packing.{offset_of}
use Rattle.sb_block.specs.Replies.{reply_words}
use Rattle.sb_actor.specs.Acts.{ready, turn_in, value_in}
use Rattle.sb_actor.specs.Observations.{Observation, Answered, Done}
use Rattle.sb_actor.specs.Ranges.{IsSoundStage}
use Rattle.sb_actor.specs.WorkerStages.{WorkerAt, WorkerStage, Look, Count, End, Copy, Take, Answer, Give, Reply, Ack}
use Rattle.sb_actor.specs.WorkerTable.{worker_after, worker_plan}
use Rattle.sb_host.specs.HostWorkers.{HostAt, after_dones, after_step, copy_at}
use Rattle.sb_host.specs.Moves.{IsReplyKept, is_copying_at, left_after, moves_left, place_in_reply, place_of, values_left, words_to_copy}

-- a worker at this stage
abbrev at : WorkerAt → WorkerStage → WorkerAt
at w stage = record w { stage = stage }

-- the count goes on with the worker
abbrev Counts : WorkerAt → Observation → Type 0
Counts w seen = words_to_copy (worker_after w seen).stage ≡ left_after (words_to_copy w.stage) (worker_plan (worker_after w seen)) seen

some_left : (end copied : ℕ) → copied < end → nat_lt 0 (end - copied) ≡ true
some_left end copied h = grind (arith, nat_tests, h)

none_left : (end copied after : ℕ) → after ≡ copied + 1 → (after == end) ≡ true → 0 ≡ end - copied - 1
none_left end copied after more e = grind (arith, nat_tests, more, e)

one_less : (end copied after : ℕ) → after ≡ copied + 1 → end - after ≡ end - copied - 1
one_less end copied after more = omega (arith, more)

all_left : (end : ℕ) → end - 0 ≡ end
all_left end = omega arith

later_word : (count : ℕ) → (1 + (15 + count) == 1) ≡ false
later_word count = grind (arith, nat_tests)

stored_word : (i : ℕ) → 1 + (3 + i) - 4 ≡ i
stored_word i = omega arith

pub left_kept : (w : WorkerAt) (seen : Observation) → IsSoundStage w.stage → Counts w seen
left_kept w seen sound = by w w.stage sound
  where
    by : (w : WorkerAt) (stage : WorkerStage) → IsSoundStage stage → Counts (at w stage) seen
    by w Look sound = looked (value_in seen == ready) refl
      where
        looked : (b : Bool) → (value_in seen == ready) ≡ b → Counts (at w Look) seen
        looked true e = rw (e) refl
        looked false e = rw (e) refl
    by w Count sound = counted (nat_lt 9 (value_in seen)) refl
      where
        counted : (b : Bool) → nat_lt 9 (value_in seen) ≡ b → Counts (at w Count) seen
        counted true e = rw (e) refl
        counted false e = rw (e, later_word (value_in seen)) refl
    by w (End count) sound = ended (is_end count (offset_of (value_in seen))) refl
      where
        ended : (b : Bool) → is_end count (offset_of (value_in seen)) ≡ b → Counts (at w (End count)) seen
        ended true e = rw (e) (all_left (offset_of (value_in seen)))
        ended false e = rw (e) refl
    by w (Copy count end words) sound = copied (length (words ++ value_in seen ∷ []) == end) refl
      where
        copied : (b : Bool) → (length (words ++ value_in seen ∷ []) == end) ≡ b → Counts (at w (Copy count end words)) seen
        copied true e =
            rw (e, some_left end (length words) sound.3)
            (none_left end (length words) (length (words ++ value_in seen ∷ [])) (length-append words (value_in seen ∷ [])) e)
        copied false e =
            rw (e, some_left end (length words) sound.3)
            (one_less end (length words) (length (words ++ value_in seen ∷ [])) (length-append words (value_in seen ∷ [])))
    by w (Take copy) sound = turned (turn_in seen) refl
      where
        turned : (b : Bool) → turn_in seen ≡ b → Counts (at w (Take copy)) seen
        turned true e = rw (e) refl
        turned false e = rw (e) refl
    by w (Answer copy) sound = refl
    by w (Give copy reply) sound = refl
    by w (Reply copy reply i) sound = stored (i == 11) refl
      where
        stored : (b : Bool) → (i == 11) ≡ b → Counts (at w (Reply copy reply i)) seen
        stored true e = rw (e) refl
        stored false e = rw (e) refl
    by w (Ack copy reply) sound = refl

-- the reply that is kept stays that of the worker
pub reply_kept : (w : WorkerAt) (seen : Observation) (kept : List ℕ) → is_some (copy_at w.stage) ≡ false → IsReplyKept w.stage kept
    → IsReplyKept (worker_after w seen).stage kept
reply_kept w seen kept other is = by w w.stage other is
  where
    by : (w : WorkerAt) (stage : WorkerStage) → is_some (copy_at stage) ≡ false → IsReplyKept stage kept → IsReplyKept (worker_after (at w stage) seen).stage kept
    by w Look other is = looked (value_in seen == ready) refl
      where
        looked : (b : Bool) → (value_in seen == ready) ≡ b → IsReplyKept (worker_after (at w Look) seen).stage kept
        looked true e = rw (e) tt
        looked false e = rw (e) tt
    by w Count other is = counted (nat_lt 9 (value_in seen)) refl
      where
        counted : (b : Bool) → nat_lt 9 (value_in seen) ≡ b → IsReplyKept (worker_after (at w Count) seen).stage kept
        counted true e = rw (e) tt
        counted false e = rw (e) tt
    by w (End count) other is = ended (is_end count (offset_of (value_in seen))) refl
      where
        ended : (b : Bool) → is_end count (offset_of (value_in seen)) ≡ b → IsReplyKept (worker_after (at w (End count)) seen).stage kept
        ended true e = rw (e) tt
        ended false e = rw (e) tt
    by w (Copy count end words) other is = copied (length (words ++ value_in seen ∷ []) == end) refl
      where
        copied : (b : Bool) → (length (words ++ value_in seen ∷ []) == end) ≡ b → IsReplyKept (worker_after (at w (Copy count end words)) seen).stage kept
        copied true e = rw (e) tt
        copied false e = rw (e) tt
    by w (Take copy) other is = turned (turn_in seen) refl
      where
        turned : (b : Bool) → turn_in seen ≡ b → IsReplyKept (worker_after (at w (Take copy)) seen).stage kept
        turned true e = rw (e) tt
        turned false e = rw (e) tt
    by w (Answer copy) other is = absurd (false≢true (sym other))
    by w (Give copy reply) other is = is
    by w (Reply copy reply i) other is = stored (i == 11) refl
      where
        stored : (b : Bool) → (i == 11) ≡ b → IsReplyKept (worker_after (at w (Reply copy reply i)) seen).stage kept
        stored true e = rw (e) tt
        stored false e = rw (e) is
    by w (Ack copy reply) other is = tt

-- and so it is taken at the answer, at which nothing is left to copy
pub reply_taken : (w : WorkerAt) (reply : HostReply) → is_some (copy_at w.stage) ≡ true
    → IsReplyKept (worker_after w (Answered reply)).stage (reply_words reply) × (words_to_copy w.stage ≡ words_to_copy (worker_after w (Answered reply)).stage)
reply_taken w reply h = by w w.stage h
  where
    by : (w : WorkerAt) (stage : WorkerStage) → is_some (copy_at stage) ≡ true
        → IsReplyKept (worker_after (at w stage) (Answered reply)).stage (reply_words reply)
        × (words_to_copy stage ≡ words_to_copy (worker_after (at w stage) (Answered reply)).stage)
    by w Look h = absurd (false≢true h)
    by w Count h = absurd (false≢true h)
    by w (End count) h = absurd (false≢true h)
    by w (Copy count end words) h = absurd (false≢true h)
    by w (Take taken) h = absurd (false≢true h)
    by w (Answer taken) h = (refl, refl)
    by w (Give taken given) h = absurd (false≢true h)
    by w (Reply taken given i) h = absurd (false≢true h)
    by w (Ack taken given) h = absurd (false≢true h)

-- the place in the reply is that of the word that is planned
pub place_planned : (w : WorkerAt) → place_of (worker_plan w) ≡ place_in_reply w.stage
place_planned w = by w w.stage
  where
    by : (w : WorkerAt) (stage : WorkerStage) → place_of (worker_plan (at w stage)) ≡ place_in_reply stage
    by w Look = refl
    by w Count = refl
    by w (End count) = refl
    by w (Copy count end words) = refl
    by w (Take taken) = refl
    by w (Answer taken) = refl
    by w (Give taken reply) = refl
    by w (Reply taken reply i) = ap Some (stored_word i)
    by w (Ack taken reply) = refl

abbrev IsWithin : Option ℕ → Type 0
IsWithin None = Unit {0}
IsWithin (Some place) = place < 12

pub place_within : (stage : WorkerStage) → IsSoundStage stage → IsWithin (place_in_reply stage)
place_within Look sound = tt
place_within Count sound = tt
place_within (End count) sound = tt
place_within (Copy count end words) sound = tt
place_within (Take taken) sound = tt
place_within (Answer taken) sound = tt
place_within (Give taken reply) sound = tt
place_within (Reply taken reply i) sound = sound.0
place_within (Ack taken reply) sound = tt

-- what is left, by the place in the reply
pub moves_placed : (stage : WorkerStage) (place : ℕ) → place_in_reply stage ≡ Some place → moves_left stage ≡ 12 - place
moves_placed Look place h = absurd (false≢true (ap is_some h))
moves_placed Count place h = absurd (false≢true (ap is_some h))
moves_placed (End count) place h = absurd (false≢true (ap is_some h))
moves_placed (Copy count end words) place h = absurd (false≢true (ap is_some h))
moves_placed (Take taken) place h = absurd (false≢true (ap is_some h))
moves_placed (Answer taken) place h = absurd (false≢true (ap is_some h))
moves_placed (Give taken reply) place h = absurd (false≢true (ap is_some h))
moves_placed (Reply taken reply i) place h = ap (λ p. 12 - place_or p) h
  where
    place_or : Option ℕ → ℕ
    place_or None = 0
    place_or (Some place) = place
moves_placed (Ack taken reply) place h = absurd (false≢true (ap is_some h))

pub moves_copied : (stage : WorkerStage) → place_in_reply stage ≡ None → moves_left stage ≡ words_to_copy stage
moves_copied Look h = refl
moves_copied Count h = refl
moves_copied (End count) h = refl
moves_copied (Copy count end words) h = refl
moves_copied (Take taken) h = refl
moves_copied (Answer taken) h = refl
moves_copied (Give taken reply) h = refl
moves_copied (Reply taken reply i) h = absurd (false≢true (ap is_some (sym h)))
moves_copied (Ack taken reply) h = refl

-- the worker copies exactly if words are left
pub copying_left : (stage : WorkerStage) → IsSoundStage stage → nat_lt 0 (words_to_copy stage) ≡ is_copying_at stage
copying_left Look sound = refl
copying_left Count sound = refl
copying_left (End count) sound = refl
copying_left (Copy count end words) sound = some_left end (length words) sound.3
copying_left (Take taken) sound = refl
copying_left (Answer taken) sound = refl
copying_left (Give taken reply) sound = refl
copying_left (Reply taken reply i) sound = refl
copying_left (Ack taken reply) sound = refl

-- the values that are left are those of the reply that is kept
pub values_kept : (stage : WorkerStage) (place : ℕ) (kept : List ℕ) → place_in_reply stage ≡ Some place → IsReplyKept stage kept → values_left stage ≡ drop place kept
values_kept Look place kept h is = absurd (false≢true (ap is_some h))
values_kept Count place kept h is = absurd (false≢true (ap is_some h))
values_kept (End count) place kept h is = absurd (false≢true (ap is_some h))
values_kept (Copy count end words) place kept h is = absurd (false≢true (ap is_some h))
values_kept (Take taken) place kept h is = absurd (false≢true (ap is_some h))
values_kept (Answer taken) place kept h is = absurd (false≢true (ap is_some h))
values_kept (Give taken reply) place kept h is = absurd (false≢true (ap is_some h))
values_kept (Reply taken reply i) place kept h is = ap (λ p. drop (place_or p) reply) h ∙ ap (drop place) is
  where
    place_or : Option ℕ → ℕ
    place_or None = 0
    place_or (Some place) = place
values_kept (Ack taken reply) place kept h is = absurd (false≢true (ap is_some h))

pub no_values : (stage : WorkerStage) → place_in_reply stage ≡ None → values_left stage ≡ []
no_values Look h = refl
no_values Count h = refl
no_values (End count) h = refl
no_values (Copy count end words) h = refl
no_values (Take taken) h = refl
no_values (Answer taken) h = refl
no_values (Give taken reply) h = refl
no_values (Reply taken reply i) h = absurd (false≢true (ap is_some (sym h)))
no_values (Ack taken reply) h = refl

-- one store, and then one less
pub one_done : (h : HostAt) (n : ℕ) → 0 < n → after_dones h n ≡ after_dones (after_step h Done) (n - 1)
one_done h zero some = absurd (omega (arith, some))
one_done h (suc n) some = ap (after_dones (after_step h Done)) less
  where
    less : n ≡ suc n - 1
    less = omega arith
