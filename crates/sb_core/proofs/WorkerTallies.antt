-- A step of a worker makes no entry that is not owed.
use Rattle.std.proofs.Common.{◌≡◌, ◌≢◌, ◌∙◌, refl, ap, subst, sym, ℕ, ◌+◌, ◌*◌, ◌%◌, ◌<◌, ◌≤◌, Bool, true, false, ◌&&◌, ◌==◌, if◌then◌else◌, List, [], ◌∷◌, ◌++◌, length, set, get_or, get_or-set_same, get_or-set_other, is_none, arith}
use Rattle.std.proofs.lemmas.List.Sums.{sum_by-append}
use Rattle.sb_core.proofs.Names.{Ack, Answer, at, copied, Copy, Count, Effect, End, entries_on, Entry, entry_of, exchanged, Give, is_end, IsSoundStage, IsWorld, loaded, Look, look_next, nat_lt, offset_of, on_worker, one_if, slice_index, stored, sum_by-cons, Take, target_decision, words_of, worker_after, worker_plan, WorkerAt, WorkerStage, WorldAt}
use Rattle.sb_actor.specs.WorkerStages.{Reply}
use Rattle.sb_core.proofs.Existence.{words_listed}
use Rattle.sb_core.proofs.Numbers.{is_same, not_same, self_same}

-- whether an entry is still to come from a channel in this state: the worker is at it and has not marked, or the state is 3
abbrev pub owed_at : WorkerStage → ℕ → ℕ
owed_at Look s = one_if (s == 3)
owed_at (Give taken reply) s = 0
owed_at (Reply taken reply i) s = 0
owed_at (Ack taken reply) s = 0
owed_at _ s = 1

abbrev pub owed_by : Bool → WorkerStage → ℕ → ℕ
owed_by b stage s = if b then owed_at stage s else one_if (s == 3)

abbrev pub owed : WorkerAt → ℕ → ℕ → ℕ
owed x c s = owed_by (x.channel == c) x.stage s

-- one entry more
pub entries_more : (t c : ℕ) (es : List Entry) (e : Entry) → entries_on t c (es ++ e ∷ []) ≡ entries_on t c es + one_if (e.target == t && e.channel == c)
entries_more t c es e =
    let all = sum_by-append (λ (e : Entry). one_if (e.target == t && e.channel == c)) es (e ∷ []) in
    let last = sum_by-cons (λ (e : Entry). one_if (e.target == t && e.channel == c)) e [] in
    omega (arith, all, last)

-- a worker that looks owes by the state alone, wherever it is
pub looking_owed : (b : Bool) (s : ℕ) → owed_by b Look s ≡ one_if (s == 3)
looking_owed true s = refl
looking_owed false s = refl

module _ (w : WorldAt) (t channels d : ℕ) (kept : IsWorld w) (there : t < length w.workers) (c : ℕ) (inside : at c 0 < length (words_of w.shared.words t)) where
  abbrev at_this : WorkerStage → WorkerAt
  at_this stage = record { target = t; channels = channels; channel = d; stage = stage }

  abbrev effect : WorkerStage → Effect
  effect stage = on_worker w.shared t (at_this stage) (worker_plan (at_this stage))

  abbrev words : List ℕ
  words = words_of w.shared.words t

  abbrev state : ℕ
  state = slice_index words (at c 0)

  abbrev After : WorkerStage → Type 0
  After stage =
      entries_on t c (effect stage).shared.book.entries + owed (worker_after (at_this stage) (effect stage).seen) c (slice_index (words_of (effect stage).shared.words t) (at c 0))
      ≤ entries_on t c w.shared.book.entries + owed_by (d == c) stage state

  same_owed : (b : Bool) (x y : WorkerStage) → owed_at x state ≡ owed_at y state → owed_by b x state ≤ owed_by b y state
  same_owed true x y e = omega (arith, e)
  same_owed false x y e = omega arith

  -- two stages that owe as much
  two : (b : Bool) (x y z : WorkerStage) → owed_at x state ≡ owed_at z state → owed_at y state ≡ owed_at z state → owed_by (d == c) (if b then x else y) state ≤ owed_by (d == c) z state
  two true x y z e f = same_owed (d == c) x z e
  two false x y z e f = same_owed (d == c) y z f

  looks : (b : Bool) → (slice_index words (at d 0) == 3) ≡ b
      → owed_by ((if b then at_this Count else look_next (at_this Look)).channel == c) (if b then at_this Count else look_next (at_this Look)).stage state ≤ owed_by (d == c) Look state
  looks true e = by_place (d == c) refl
    where
      by_place : (p : Bool) → (d == c) ≡ p → owed_by p Count state ≤ owed_by p Look state
      by_place true f =
          let here : slice_index words (at d 0) ≡ state = ap (λ z. slice_index words (at z 0)) (is_same d c f) in
          let three : one_if (state == 3) ≡ 1 = ap one_if (ap (λ z. z == 3) (sym here) ∙ e) in
          omega (arith, three)
      by_place false f = omega arith
  looks false e =
      let one = looking_owed (((d + 1) % channels) == c) state in
      let two = looking_owed (d == c) state in
      omega (arith, one, two)

  written : (new : List ℕ) → words_of (set w.shared.words t new) t ≡ new
  written new = get_or-set_same w.shared.words t new [] (words_listed w t kept there)

  marks : (es : List Entry) (e : Entry) → e.target ≡ t → e.channel ≡ d → entries_on t c (es ++ e ∷ []) + owed_by (d == c) (Give (e.taken) []) state ≤ entries_on t c es + owed_by (d == c) (Answer e.taken) state
  marks es e et ec =
      let more = entries_more t c es e in
      let one : one_if (e.target == t && e.channel == c) ≡ one_if (d == c) =
      ap (λ (z : Bool × ℕ). one_if (z.0 && z.1 == c)) (λ j. ((ap (λ z. z == t) et ∙ self_same t) j, ec j)) in
      by_place (d == c) more one
    where
      by_place : (p : Bool) → entries_on t c (es ++ e ∷ []) ≡ entries_on t c es + one_if (e.target == t && e.channel == c) → one_if (e.target == t && e.channel == c) ≡ one_if p
          → entries_on t c (es ++ e ∷ []) + owed_by p (Give (e.taken) []) state ≤ entries_on t c es + owed_by p (Answer e.taken) state
      by_place true more one = omega (arith, more, one)
      by_place false more one = omega (arith, more, one)

  -- a word of a block is no state
  block_state : (i value : ℕ) → i < 64 → slice_index (set words (d * 65 + (1 + i)) value) (at c 0) ≡ state
  block_state i value l = get_or-set_other words (d * 65 + (1 + i)) (at c 0) value 0 apart
    where
      apart : at c 0 ≢ d * 65 + (1 + i)
      apart e = absurd (omega (arith, e, l))

  -- after the acknowledgement the state is not 3
  has_reply : (b : Bool) → (get_or words (at d 0) 0 == 3) ≡ b
      → one_if (slice_index (set words (at d 0) (if b then 4 else get_or words (at d 0) 0)) (at c 0) == 3) ≤ owed_by (d == c) (Ack (copied 0 0 []) []) state
  has_reply b e = by_place (d == c) refl (if b then 4 else get_or words (at d 0) 0) (no_more b (get_or words (at d 0) 0) e)
    where
      no_more : (b : Bool) (n : ℕ) → (n == 3) ≡ b → one_if ((if b then 4 else n) == 3) ≡ 0
      no_more true n e = refl
      no_more false n e = ap one_if e

      by_place : (p : Bool) → (d == c) ≡ p → (value : ℕ) → one_if (value == 3) ≡ 0
          → one_if (slice_index (set words (at d 0) value) (at c 0) == 3) ≤ owed_by p (Ack (copied 0 0 []) []) state
      by_place true f value none =
          let now : slice_index (set words (at d 0) value) (at c 0) ≡ value =
          subst (λ z. slice_index (set words (at z 0) value) (at c 0) ≡ value) (sym (is_same d c f)) (get_or-set_same words (at c 0) value 0 inside) in
          let same : one_if (slice_index (set words (at d 0) value) (at c 0) == 3) ≡ one_if (value == 3) = ap (λ z. one_if (z == 3)) now in
          omega (arith, same, none)
      by_place false f value none =
          let ne = not_same d c f in
          let as_before : slice_index (set words (at d 0) value) (at c 0) ≡ state = get_or-set_other words (at d 0) (at c 0) value 0 (λ g. ne (omega (arith, g))) in
          let same : one_if (slice_index (set words (at d 0) value) (at c 0) == 3) ≡ one_if (state == 3) = ap (λ z. one_if (z == 3)) as_before in
          omega (arith, same)

  plus : (n a b : ℕ) → a ≤ b → n + a ≤ n + b
  plus n a b l = omega (arith, l)

  pub own_owed : (stage : WorkerStage) → IsSoundStage stage → After stage
  own_owed Look s = plus (entries_on t c w.shared.book.entries) _ _ (looks (slice_index words (at d 0) == 3) refl)
  own_owed Count s =
      let count = loaded words (record { channel = d; at = 1 + 2 }) in
      plus (entries_on t c w.shared.book.entries) _ _ (two (nat_lt 9 count) (Take (copied count 0 [])) (End count) Count refl refl)
  own_owed (End count) s =
      let end = offset_of (loaded words (record { channel = d; at = 1 + (15 + count) })) in
      plus (entries_on t c w.shared.book.entries) _ _ (two (is_end count end) (Copy count end []) (Take (copied count end [])) (End count) refl refl)
  own_owed (Copy count end copy) s =
      let x = loaded words (record { channel = d; at = 1 + length copy }) in
      plus (entries_on t c w.shared.book.entries) _ _ (two (length (copy ++ x ∷ []) == end) (Take (copied count end (copy ++ x ∷ []))) (Copy count end (copy ++ x ∷ [])) (Copy count end copy) refl refl)
  own_owed (Take taken) s = plus (entries_on t c w.shared.book.entries) _ _ (two (is_none w.shared.turn) (Answer taken) (Take taken) (Take taken) refl refl)
  own_owed (Answer taken) s = marks w.shared.book.entries (entry_of w.shared.book.space t d taken (target_decision w.shared.book t taken)) refl refl
  own_owed (Give taken reply) s = plus (entries_on t c w.shared.book.entries) _ _ (same_owed (d == c) (Reply taken reply 0) (Give taken reply) refl)
  own_owed (Reply taken reply i) s =
      let low = s.0 in
      let new = stored words (record { channel = d; at = 1 + (3 + i) }) (slice_index reply i) in
      let as_before : slice_index (words_of (set w.shared.words t new) t) (at c 0) ≡ state =
      ap (λ (z : List ℕ). slice_index z (at c 0)) (written new) ∙ block_state (3 + i) (slice_index reply i) (omega (arith, low)) in
      subst (λ z. entries_on t c w.shared.book.entries + owed (worker_after (at_this (Reply taken reply i)) (effect (Reply taken reply i)).seen) c z
      ≤ entries_on t c w.shared.book.entries + owed_by (d == c) (Reply taken reply i) state) (sym as_before)
      (plus (entries_on t c w.shared.book.entries) _ _ (two (i == 11) (Ack taken reply) (Reply taken reply (i + 1)) (Reply taken reply i) refl refl))
  own_owed (Ack taken reply) s =
      let new = stored words (record { channel = d; at = 0 }) (exchanged (get_or words (at d 0) 0) 3 4) in
      subst (λ (z : List ℕ). entries_on t c w.shared.book.entries + owed (worker_after (at_this (Ack taken reply)) (effect (Ack taken reply)).seen) c (slice_index z (at c 0))
      ≤ entries_on t c w.shared.book.entries + owed_by (d == c) (Ack taken reply) state) (sym (written new))
      (plus (entries_on t c w.shared.book.entries) _ _
      (let low = has_reply (get_or words (at d 0) 0 == 3) refl in
      let looks_on = looking_owed (((d + 1) % channels) == c) (slice_index new (at c 0)) in
      omega (arith, low, looks_on)))
