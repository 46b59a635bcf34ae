-- Sources stay, and each step writes values that have one.
use Rattle.std.proofs.Common.{◌≡◌, ◌⊎◌, inl, inr, ⊎_elim, ◌∙◌, refl, ap, subst, sym, ℕ, zero, suc, ◌+◌, ◌<◌, ◌≤◌, Bool, true, false, ◌==◌, if◌then◌else◌, List, [], ◌∷◌, ◌++◌, length, length-set, set, get_or, take, get_or-set_same, get_or-set_other, Some, slice_get, arith, ◌*◌, length-append, is_none, lit<, lit≤}
use Rattle.sb_actor.specs.declared.acts.Act.TheVariants as act
use Rattle.sb_call.specs.declared.replies.Reply.{Reply as ReplyOf}
use Rattle.sb_actor.specs.WorkerStages.{Reply}
use Rattle.std.proofs.lemmas.List.{take-append-le}
use Rattle.sb_core.proofs.Names.{Act, AreSourcedCopies, AreSourcedWords, at, Copied, Entry, exchanged, HasBlockSource, HasSource, HasStateSource, IsActThere, IsSourcedCopy, IsSourcedReply, loaded, on_word, place_of, Script, SharedAt, slice_get_within, slice_index, stored, take_all, Word, words_of, ℕ_discrete, Ack, Answer, copied, Copy, Count, Effect, End, entry_of, get_or-append, Give, is_end, IsSoundStage, IsWorld, Look, look_next, nat_lt, nat_tests, offset_of, on_worker, reply_words, Take, target_decision, worker_after, worker_plan, WorkerAt, WorkerStage, WorldAt}
use Rattle.sb_core.proofs.Sets.{behind}
use Rattle.sb_core.proofs.Numbers.{some_same}
use Rattle.std.proofs.Math.Seq.{get_or-append_seam}
use Rattle.sb_actor.specs.Acts.{ready}
use Rattle.sb_core.proofs.Existence.{target_low, words_listed, worker_act}

-- an element of a front
pub in_front : {X : Type 0} (xs : List X) (y : X) (n : ℕ) (x : X) → slice_get xs n ≡ Some x → slice_get (xs ++ y ∷ []) n ≡ Some x
in_front [] y n x e = absurd (cc)
in_front (z ∷ xs) y zero x e = e
in_front (z ∷ xs) y (suc n) x e = in_front xs y n x e

-- and the last one
pub at_last : {X : Type 0} (xs : List X) (y : X) → slice_get (xs ++ y ∷ []) (length xs) ≡ Some y
at_last [] y = refl
at_last (x ∷ xs) y = at_last xs y

-- sources stay as entries come
module _ (script : Script) (es : List Entry) (e : Entry) where
  pub more_block : (t c i x : ℕ) → HasBlockSource script es t c i x → HasBlockSource script (es ++ e ∷ []) t c i x
  more_block t c i x h =
      ⊎_elim (λ a. inl a)
      (λ b. inr (⊎_elim (λ a. inl a)
      (λ b. inr (⊎_elim (λ a. inl a) (λ r. inr (r.0, r.1, r.2, in_front es e r.0 r.1 r.3, r.4, r.5, r.6, r.7, r.8)) b)) b)) h

  pub more_source : (t c j x : ℕ) → HasSource script es t c j x → HasSource script (es ++ e ∷ []) t c j x
  more_source t c j x h = record { state = h.state; word = λ i f. more_block t c i x (h.word i f) }

  pub more_words : (words : List (List ℕ)) → AreSourcedWords script es words → AreSourcedWords script (es ++ e ∷ []) words
  more_words words h t c j l m = more_source t c j _ (h t c j l m)

  pub more_copy : (t c : ℕ) (taken : Copied) → IsSourcedCopy script es t c taken → IsSourcedCopy script (es ++ e ∷ []) t c taken
  more_copy t c taken h = record {
    words = λ i l. more_block t c i (slice_index taken.words i) (h.words i l);
    count = more_block t c 2 taken.count_seen h.count;
    end = λ l. let x = h.end l in (x.0, x.1, more_block t c (15 + taken.count_seen) x.0 x.2);
  }

  pub more_reply : (t c : ℕ) (reply : ReplyOf) → IsSourcedReply script es t c reply → IsSourcedReply script (es ++ e ∷ []) t c reply
  more_reply t c reply h = record {
    mark = more_block t c 3 reply.mark h.mark;
    outcome = more_block t c 4 reply.outcome h.outcome;
    status = more_block t c 5 reply.status h.status;
    handle = more_block t c 6 reply.handle h.handle;
    many = let x = h.many in (x.0, more_block t c 7 x.0 x.1, x.2);
    words = λ i l. more_block t c (8 + i) (slice_index reply.ext i) (h.words i l);
  }

  -- with the copy of the new entry
  pub more_copies : AreSourcedCopies script es → IsSourcedCopy script es e.target e.channel e.taken → AreSourcedCopies script (es ++ e ∷ [])
  more_copies all new n x f =
      ⊎_elim
      (λ h.
      let low = slice_get_within es n x h in
      subst (λ (z : List Entry). IsSourcedCopy script z x.target x.channel x.taken) (sym (take-append-le n es (e ∷ []) (omega (arith, low)))) (all n x h))
      (λ h.
      let at_end = h.0 in
      subst (λ (z : List Entry). IsSourcedCopy script z x.target x.channel x.taken)
      (sym (take-append-le n es (e ∷ []) (omega (arith, at_end)) ∙ take_all n es (omega (arith, at_end))))
      (subst (λ (z : Entry). IsSourcedCopy script es z.target z.channel z.taken) (some_same e x h.1) new)) (behind es (Some e) n x f)

-- a source of a word of each kind
pub state_source : (script : Script) (es : List Entry) (t c x : ℕ) → HasStateSource script t c x → HasSource script es t c 0 x
state_source script es t c x h = record { state = λ e. h; word = λ i e. absurd (omega (arith, e)) }

pub block_source : (script : Script) (es : List Entry) (t c i x : ℕ) → HasBlockSource script es t c i x → HasSource script es t c (1 + i) x
block_source script es t c i x h = record {
  state = λ e. absurd (omega (arith, e));
  word = λ k e. let same : i ≡ k = omega (arith, e) in subst (λ z. HasBlockSource script es t c z x) same h;
}

-- what a step on a word writes has a source there
abbrev pub WritesSource : Script → List Entry → Act → Type 0
WritesSource script es (act.Store t word value) = (word.at < 65) × HasSource script es t word.channel word.at value
WritesSource script es (act.Exchange t word from to) = (word.at < 65) × HasSource script es t word.channel word.at to
WritesSource script es _ = Unit {0}

module _ (script : Script) (es : List Entry) (words : List (List ℕ)) (all : AreSourcedWords script es words) (t : ℕ) (word : Word) (value : ℕ) (here : t < length words)
    (low : word.at < 65) (source : HasSource script es t word.channel word.at value) where
  stored_source : AreSourcedWords script es (set words t (stored (words_of words t) word value))
  stored_source u c j l m = by_target (ℕ_discrete u t) m
    where
      now : List ℕ
      now = stored (words_of words t) word value

      by_word : (c j : ℕ) → j < 65 → at c j < length (words_of words t) → Dec (at c j ≡ place_of word)
          → HasSource script es t c j (slice_index (stored (words_of words t) word value) (at c j))
      by_word c j l m (yes e) =
          let one : c ≡ word.channel = omega (arith, e, l, low) in
          let two : j ≡ word.at = omega (arith, e, l, low, one) in
          subst (λ (z : ℕ × ℕ). HasSource script es t z.0 z.1 (slice_index (stored (words_of words t) word value) (at c j))) (λ k. (sym one k, sym two k))
          (subst (λ z. HasSource script es t word.channel word.at z)
          (sym (ap (λ p. slice_index (stored (words_of words t) word value) p) e ∙ get_or-set_same (words_of words t) (place_of word) value 0 (subst (λ p. p < length (words_of words t)) e m))) source)
      by_word c j l m (no ne) =
          subst (λ z. HasSource script es t c j z) (sym (get_or-set_other (words_of words t) (place_of word) (at c j) value 0 ne)) (all t c j l m)

      by_target : Dec (u ≡ t) → at c j < length (words_of (set words t (stored (words_of words t) word value)) u)
          → HasSource script es u c j (slice_index (words_of (set words t (stored (words_of words t) word value)) u) (at c j))
      by_target (yes e) m =
          subst (λ z. at c j < length (words_of (set words t (stored (words_of words t) word value)) z)
          → HasSource script es z c j (slice_index (words_of (set words t (stored (words_of words t) word value)) z) (at c j))) (sym e)
          (subst (λ (ws : List ℕ). at c j < length ws → HasSource script es t c j (slice_index ws (at c j))) (sym (get_or-set_same words t (stored (words_of words t) word value) [] here))
          (λ q. by_word c j l (subst (λ n. at c j < n) (length-set (words_of words t) (place_of word) value) q) (ℕ_discrete (at c j) (place_of word)))) m
      by_target (no ne) m =
          subst (λ (ws : List ℕ). at c j < length ws → HasSource script es u c j (slice_index ws (at c j))) (sym (get_or-set_other words t u (stored (words_of words t) word value) [] ne))
          (all u c j l) m

-- the words after a step
pub sourced_words : (script : Script) (es : List Entry) (s : SharedAt) (a : Act) → AreSourcedWords script es s.words → IsActThere s.words a → WritesSource script es a
    → AreSourcedWords script es (on_word s a).shared.words
sourced_words script es s (act.Store t word value) all there w = stored_source script es s.words all t word value there.listed w.0 w.1
sourced_words script es s (act.Exchange t word from to) all there w =
    stored_source script es s.words all t word (exchanged (loaded (words_of s.words t) word) from to) there.listed w.0 (by_test (loaded (words_of s.words t) word == from))
  where
    by_test : (b : Bool) → HasSource script es t word.channel word.at (if b then to else loaded (words_of s.words t) word)
    by_test true = w.1
    by_test false = all t word.channel word.at w.0 there.inside
sourced_words script es s _ all there w = all

-- the reply is that of an entry on this channel
abbrev pub IsMade : List Entry → ℕ → ℕ → List ℕ → Type 0
IsMade es t c reply = (n : ℕ) × (e : Entry) × (slice_get es n ≡ Some e) × (e.target ≡ t) × (e.channel ≡ c) × (reply ≡ reply_words e.reply)

-- what a worker has copied has sources, and what it replies is made
abbrev pub IsTracedWorker : Script → List Entry → ℕ → ℕ → WorkerStage → Type 0
IsTracedWorker script es t c (End count) = HasBlockSource script es t c 2 count
IsTracedWorker script es t c (Copy count end words) = IsSourcedCopy script es t c (copied count end words)
IsTracedWorker script es t c (Take taken) = IsSourcedCopy script es t c taken
IsTracedWorker script es t c (Answer taken) = IsSourcedCopy script es t c taken
IsTracedWorker script es t c (Give taken reply) = IsMade es t c reply
IsTracedWorker script es t c (Reply taken reply i) = IsMade es t c reply
IsTracedWorker script es t c _ = Unit {0}

-- each of a list with one more
pub each_more : (P : ℕ → ℕ → Type 0) (words : List ℕ) (x : ℕ) → ((i : ℕ) → i < length words → P i (slice_index words i)) → P (length words) x
    → (i : ℕ) → i < length (words ++ x ∷ []) → P i (slice_index (words ++ x ∷ []) i)
each_more P words x each new i l = by_place (ℕ_discrete i (length words))
  where
    by_place : Dec (i ≡ length words) → P i (slice_index (words ++ x ∷ []) i)
    by_place (yes e) =
        subst (λ z. P z (slice_index (words ++ x ∷ []) z)) (sym e) (subst (λ z. P (length words) z) (sym (get_or-append_seam words x [] 0)) new)
    by_place (no ne) =
        let longer = length-append words (x ∷ []) in
        let low : i < length words = omega (arith, longer, l, ne) in
        subst (λ z. P i z) (sym (get_or-append words (x ∷ []) 0 i low)) (each i low)

module _ (script : Script) (w : WorldAt) (t channels c : ℕ) (kept : IsWorld w) (there : t < length w.workers) (within : c < channels) (few : channels ≤ 8)
    (sized : length (words_of w.shared.words t) ≡ channels * 65) (all : AreSourcedWords script w.shared.book.entries w.shared.words)
    (copies : AreSourcedCopies script w.shared.book.entries) where
  abbrev es : List Entry
  es = w.shared.book.entries

  abbrev at_this : WorkerStage → WorkerAt
  at_this stage = record { target = t; channels = channels; channel = c; stage = stage }

  abbrev effect : WorkerStage → Effect
  effect stage = on_worker w.shared t (at_this stage) (worker_plan (at_this stage))

  -- a word of the channel
  found : (i : ℕ) → i < 64 → HasBlockSource script es t c i (loaded (words_of w.shared.words t) (record { channel = c; at = 1 + i }))
  found i l = (all t c (1 + i) (omega (arith, l)) (omega (arith, within, sized, l))).word i refl

  abbrev Traced : WorkerStage → Type 0
  Traced stage = IsTracedWorker script es t c stage

  two : (b : Bool) (x y : WorkerStage) → Traced x → Traced y → Traced (if b then x else y)
  two true x y h k = h
  two false x y h k = k

  looks : (b : Bool) → IsTracedWorker script es t (if b then at_this Count else look_next (at_this Look)).channel (if b then at_this Count else look_next (at_this Look)).stage
  looks true = tt
  looks false = tt

  counts : (count : ℕ) → HasBlockSource script es t c 2 count → (b : Bool) → nat_lt 9 count ≡ b → Traced (if b then Take (copied count 0 []) else End count)
  counts count h true e =
      let high : 9 < count = grind (arith, nat_tests, e) in
      record { words = λ i l. absurd (omega (arith, l)); count = h; end = λ l. absurd (omega (arith, high, l)) }
  counts count h false e = h

  ends : (count x : ℕ) → HasBlockSource script es t c 2 count → HasBlockSource script es t c (15 + count) x → IsSourcedCopy script es t c (copied count (offset_of x) [])
  ends count x h k = record { words = λ i l. absurd (omega (arith, l)); count = h; end = λ l. (x, refl, k) }

  copies_on : (count end x : ℕ) (words : List ℕ) → IsSourcedCopy script es t c (copied count end words) → HasBlockSource script es t c (length words) x
      → IsSourcedCopy script es t c (copied count end (words ++ x ∷ []))
  copies_on count end x words h k = record { words = each_more (λ i z. HasBlockSource script es t c i z) words x h.words k; count = h.count; end = h.end }

  -- the worker after its step
  pub own_traced : (stage : WorkerStage) → IsSoundStage stage → Traced stage
      → IsTracedWorker script (effect stage).shared.book.entries t (worker_after (at_this stage) (effect stage).seen).channel (worker_after (at_this stage) (effect stage).seen).stage
  own_traced Look s h = looks (loaded (words_of w.shared.words t) (record { channel = c; at = 0 }) == ready)
  own_traced Count s h =
      let count = loaded (words_of w.shared.words t) (record { channel = c; at = 1 + 2 }) in counts count (found 2 (lit< tt)) (nat_lt 9 count) refl
  own_traced (End count) s h =
      let x = loaded (words_of w.shared.words t) (record { channel = c; at = 1 + (15 + count) }) in
      let all_of = ends count x h (found (15 + count) (omega (arith, s))) in
      two (is_end count (offset_of x)) (Copy count (offset_of x) []) (Take (copied count (offset_of x) [])) all_of all_of
  own_traced (Copy count end words) s h =
      let x = loaded (words_of w.shared.words t) (record { channel = c; at = 1 + length words }) in
      let low = s.3 in
      let high = s.2 in
      let all_of = copies_on count end x words h (found (length words) (omega (arith, low, high))) in
      two (length (words ++ x ∷ []) == end) (Take (copied count end (words ++ x ∷ []))) (Copy count end (words ++ x ∷ [])) all_of all_of
  own_traced (Take taken) s h = two (is_none w.shared.turn) (Answer taken) (Take taken) h h
  own_traced (Answer taken) s h =
      let e = entry_of w.shared.book.space t c taken (target_decision w.shared.book t taken) in (length es, e, at_last es e, refl, refl, refl)
  own_traced (Give taken reply) s h = h
  own_traced (Reply taken reply i) s h = two (i == 11) (Ack taken reply) (Reply taken reply (i + 1)) tt h
  own_traced (Ack taken reply) s h = tt

  -- the words after it
  pub own_words : (stage : WorkerStage) → IsSoundStage stage → Traced stage → AreSourcedWords script (effect stage).shared.book.entries (effect stage).shared.words
  own_words (Answer taken) s h = more_words script es (entry_of w.shared.book.space t c taken (target_decision w.shared.book t taken)) w.shared.words all
  own_words (Reply taken reply i) s h =
      let low = s.0 in
      sourced_words script es w.shared (worker_plan (at_this (Reply taken reply i))) all (worker_act w.shared.words t channels c (target_low w t kept there) few (words_listed w t kept there) within sized (Reply taken reply i) s) (
        omega (arith, low),
        block_source script es t c (3 + i) (slice_index reply i)
            (inr (inr (inr (h.0, h.1, i, h.2, h.3, h.4, low, refl, ap (λ (z : List ℕ). slice_index z i) h.5)))),
      )
  own_words (Ack taken reply) s h =
      sourced_words script es w.shared (worker_plan (at_this (Ack taken reply))) all (worker_act w.shared.words t channels c (target_low w t kept there) few (words_listed w t kept there) within sized (Ack taken reply) s)
      (lit< tt, state_source script es t c 4 (inl (lit≤ tt, lit≤ tt)))
  own_words _ s h = all

  -- and the copies of the entries
  pub own_copies : (stage : WorkerStage) → Traced stage → AreSourcedCopies script (effect stage).shared.book.entries
  own_copies (Answer taken) h = more_copies script es (entry_of w.shared.book.space t c taken (target_decision w.shared.book t taken)) copies h
  own_copies _ h = copies
