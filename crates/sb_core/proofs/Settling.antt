-- Every drain settles: how many steps each worker has left falls with each pass.
use Rattle.std.proofs.Common.{◌≡◌, ◌≢◌, ◌∙◌, ◌⊎◌, inl, inr, ⊎_elim, refl, ap, subst, sym, ℕ, zero, suc, ◌+◌, ◌-◌, ◌*◌, ◌/◌, ◌%◌, ◌<◌, ◌≤◌, Bool, true, false, not, ltb, ◌&&◌, ◌||◌, ◌==◌, if◌then◌else◌, List, [], ◌∷◌, ◌++◌, length, length-append, length-set, set, get_or, get_or-set_same, get_or-set_other, Option, None, Some, is_none, lit<, lit≤, arith}
use Rattle.std.proofs.Math.Nat.{mod-eq_of_lt, mod_self}
use Rattle.std.proofs.lemmas.Nat.{div-mul-add}
use Rattle.sb_actor.specs.Acts.{ready}
use Rattle.sb_actor.specs.WorkerStages.{Reply}
use Rattle.sb_core.proofs.WorkerKeeping.{worker_keeps}
use Rattle.sb_core.proofs.Existence.{its_own, words_listed, of_own}
use Rattle.sb_core.proofs.Numbers.{itself, not_same, self_same, plus_none, apart}
use Rattle.sb_core.proofs.Folding.{chosen}
use Rattle.std.proofs.lemmas.List.Elements.{All-from_get_or}
use Rattle.std.proofs.lemmas.List.Folds.{list_any_none}
use Rattle.sb_core.proofs.Names.{Ack, after_copy, after_count, after_end, after_reply, and_parts, Answer, at, Copied, copied, Copy, Count, drained_by, DrainsSettle, End, exchanged, Give, has_ready, has_turn, is_end, is_holder, is_looking, is_ready_below, is_settled, IsSoundStage, IsWorld, list_all, list_any, loaded, Look, look_next, most_passes, nat_le, nat_lt, nat_tests, no_worker, offset_of, on_worker, one_pass, pass_below, slice_index, some_ready, stored, Take, words_of, worker_after, worker_at, worker_plan, worker_step, WorkerAt, WorkerStage, WorldAt, ℕ_discrete}

-- the state of channel j is 3
abbrev is_ready : List ℕ → ℕ → Bool
is_ready words j = slice_index words (at j 0) == ready

-- how many looks at other channels a worker at channel c of k has before it looks at channel j
abbrev ahead_by : Bool → ℕ → ℕ → ℕ → ℕ
ahead_by b k c j = if b then j - c else (j + k) - c

abbrev ahead : ℕ → ℕ → ℕ → ℕ
ahead k c j = ahead_by (nat_le c j) k c j

-- a ready channel has a whole service before it
abbrev weigh_by : Bool → ℕ → ℕ
weigh_by b n = if b then 91 + n else 0

abbrev weigh : List ℕ → ℕ → ℕ → ℕ → ℕ
weigh words k c j = weigh_by (is_ready words j) (ahead k c j)

-- all ready channels of the first n
abbrev waiting : List ℕ → ℕ → ℕ → ℕ → ℕ
waiting words k c zero = 0
waiting words k c (suc n) = waiting words k c n + weigh words k c n

-- all but channel c
abbrev but : Bool → ℕ → ℕ
but b n = if b then 0 else n

abbrev others : List ℕ → ℕ → ℕ → ℕ → ℕ
others words k c zero = 0
others words k c (suc n) = others words k c n + but (n == c) (weigh words k c n)

-- how many steps a worker at channel c of k has left
abbrev left : ℕ → ℕ → List ℕ → WorkerStage → ℕ
left k c words Look = waiting words k c k
left k c words Count = 82 + others words k c k
left k c words (End count) = 81 + others words k c k
left k c words (Copy count end copy) = 16 + (end - length copy) + others words k c k
left k c words (Take taken) = 16 + others words k c k
left k c words (Answer taken) = 15 + others words k c k
left k c words (Give taken reply) = 14 + others words k c k
left k c words (Reply taken reply i) = (13 - i) + others words k c k
left k c words (Ack taken reply) = 1 + others words k c k

same_test : (x y : ℕ) → x ≡ y → (x == y) ≡ true
same_test x y e = grind (arith, nat_tests)

-- what is waiting is at channel c, or at another
split_below : (words : List ℕ) (k c n : ℕ) → n ≤ c → waiting words k c n ≡ others words k c n
split_below words k c zero l = refl
split_below words k c (suc n) l =
    let ne : n ≢ c = λ e. absurd (omega (arith, e, l)) in
    let before = split_below words k c n (omega (arith, l)) in
    let off : but (n == c) (weigh words k c n) ≡ weigh words k c n = ap (λ b. but b (weigh words k c n)) (apart n c (λ e. ne (sym e))) in
    omega (arith, before, off)

split_above : (words : List ℕ) (k c n : ℕ) → c < n → waiting words k c n ≡ others words k c n + weigh words k c c
split_above words k c zero l = absurd (omega arith)
split_above words k c (suc n) l = by_place (ℕ_discrete n c) (λ m. split_above words k c n m)
  where
    by_place : Dec (n ≡ c) → (c < n → waiting words k c n ≡ others words k c n + weigh words k c c)
        → waiting words k c (suc n) ≡ others words k c (suc n) + weigh words k c c
    by_place (yes e) front =
        let before = split_below words k c n (omega (arith, e)) in
        let on : but (n == c) (weigh words k c n) ≡ 0 = ap (λ b. but b (weigh words k c n)) (same_test n c e) in
        let here : weigh words k c n ≡ weigh words k c c = ap (λ z. weigh words k c z) e in
        omega (arith, before, on, here)
    by_place (no ne) front =
        let before = front (omega (arith, l, ne)) in
        let off : but (n == c) (weigh words k c n) ≡ weigh words k c n = ap (λ b. but b (weigh words k c n)) (apart n c (λ e. ne (sym e))) in
        omega (arith, before, off)

-- at the next channel each other one is one look nearer
nearer_by : (k c j : ℕ) (b e : Bool) → nat_le c j ≡ b → nat_le (c + 1) j ≡ e → j ≢ c → c < k → ahead_by e k (c + 1) j + 1 ≡ ahead_by b k c j
nearer_by k c j true true p q n l = let low : c + 1 ≤ j = grind (arith, nat_tests, q) in omega (arith, low)
nearer_by k c j true false p q n l =
    let low : c ≤ j = grind (arith, nat_tests, p) in
    let high : j < c + 1 = grind (arith, nat_tests, q) in
    absurd (n (omega (arith, low, high)))
nearer_by k c j false true p q n l =
    let low : c + 1 ≤ j = grind (arith, nat_tests, q) in
    let high : j < c = grind (arith, nat_tests, p) in
    absurd (omega (arith, low, high))
nearer_by k c j false false p q n l = omega (arith, l)

first_by : (k c j : ℕ) (b : Bool) → nat_le c j ≡ b → j ≢ c → j < k → c + 1 ≡ k → j + 1 ≡ ahead_by b k c j
first_by k c j true p n l e = let low : c ≤ j = grind (arith, nat_tests, p) in absurd (n (omega (arith, low, l, e)))
first_by k c j false p n l e = omega (arith, l, e)

-- from channel 0 a channel is its number of looks away
first_ahead : (k j : ℕ) (b : Bool) → nat_le 0 j ≡ b → ahead_by b k 0 j ≡ j
first_ahead k j true e = omega arith
first_ahead k j false e = absurd (grind (arith, nat_tests, e))

nearer : (k c j : ℕ) → j ≢ c → c < k → j < k → ahead k ((c + 1) % k) j + 1 ≡ ahead k c j
nearer k c j n l m = by_test (ltb (c + 1) k) refl
  where
    by_test : (b : Bool) → ltb (c + 1) k ≡ b → ahead k ((c + 1) % k) j + 1 ≡ ahead k c j
    by_test true e =
        let below : c + 1 < k = grind (arith, nat_tests) in
        ap (λ d. ahead k d j + 1) (mod-eq_of_lt below) ∙ nearer_by k c j (nat_le c j) (nat_le (c + 1) j) refl refl n l
    by_test false e =
        let same : c + 1 ≡ k = grind (arith, nat_tests) in
        ap (λ d. ahead k d j + 1) (ap (λ z. z % k) same ∙ mod_self k)
        ∙ (ap (λ z. z + 1) (first_ahead k j (nat_le 0 j) refl) ∙ first_by k c j (nat_le c j) refl n m same)

-- one number falls to another: it is no greater, and less if there was something
pub record Falls (after before : ℕ) : Type 0 where
  pub low : after ≤ before
  pub less : 0 < before → after < before

both_fall : (a b x y : ℕ) → Falls a b → Falls x y → Falls (a + x) (b + y)
both_fall a zero x y f g =
    let one = f.low in
    let two = g.low in
    record { low = omega (arith, one, two); less = λ h. let three = g.less (omega (arith, h)) in omega (arith, one, three) }
both_fall a (suc b) x y f g =
    let one = f.less (omega arith) in
    let two = g.low in
    record { low = omega (arith, one, two); less = λ h. omega (arith, one, two) }

weigh_falls : (b : Bool) (n m : ℕ) → n + 1 ≡ m → Falls (weigh_by b n) (weigh_by b m)
weigh_falls true n m e = record { low = omega (arith, e); less = λ h. omega (arith, e) }
weigh_falls false n m e = record { low = lit≤ tt; less = λ h. absurd (omega arith) }

-- a look at a channel that is not ready
none_falls : (words : List ℕ) (k c d : ℕ) → is_ready words c ≡ false → Falls (weigh words k d c) (weigh words k c c)
none_falls words k c d e =
    let one : weigh words k d c ≡ 0 = ap (λ b. weigh_by b (ahead k d c)) e in
    let two : weigh words k c c ≡ 0 = ap (λ b. weigh_by b (ahead k c c)) e in
    record { low = omega (arith, one, two); less = λ h. absurd (omega (arith, two, h)) }

looks_fall : (words : List ℕ) (k c n : ℕ) → c < k → n ≤ k → is_ready words c ≡ false → Falls (waiting words k ((c + 1) % k) n) (waiting words k c n)
looks_fall words k c zero l m e = record { low = lit≤ tt; less = λ h. absurd (omega arith) }
looks_fall words k c (suc n) l m e =
    both_fall (waiting words k ((c + 1) % k) n) (waiting words k c n) (weigh words k ((c + 1) % k) n) (weigh words k c n)
    (looks_fall words k c n l (omega (arith, m)) e) (here (ℕ_discrete n c))
  where
    here : Dec (n ≡ c) → Falls (weigh words k ((c + 1) % k) n) (weigh words k c n)
    here (yes s) = subst (λ z. Falls (weigh words k ((c + 1) % k) z) (weigh words k c z)) (sym s) (none_falls words k c ((c + 1) % k) e)
    here (no ne) = weigh_falls (is_ready words n) (ahead k ((c + 1) % k) n) (ahead k c n) (nearer k c n ne l (omega (arith, m)))

-- other words with the same states elsewhere, and no ready channel here
acknowledged_by : (b : Bool) (n m : ℕ) → n + 1 ≡ m → weigh_by b n ≤ weigh_by b m
acknowledged_by true n m e = omega (arith, e)
acknowledged_by false n m e = lit≤ tt

served : (words new : List ℕ) (k c n : ℕ) → c < k → n ≤ k → ((j : ℕ) → j ≢ c → is_ready new j ≡ is_ready words j) → is_ready new c ≡ false
    → waiting new k ((c + 1) % k) n ≤ others words k c n
served words new k c zero l m same none = lit≤ tt
served words new k c (suc n) l m same none =
    let before = served words new k c n l (omega (arith, m)) same none in
    let here = at_place (ℕ_discrete n c) in
    omega (arith, before, here)
  where
    at_place : Dec (n ≡ c) → weigh new k ((c + 1) % k) n ≤ but (n == c) (weigh words k c n)
    at_place (yes s) =
        let zero_here : weigh new k ((c + 1) % k) n ≡ 0 = ap (λ b. weigh_by b (ahead k ((c + 1) % k) n)) (ap (is_ready new) s ∙ none) in
        omega (arith, zero_here)
    at_place (no ne) =
        let off : but (n == c) (weigh words k c n) ≡ weigh words k c n = ap (λ b. but b (weigh words k c n)) (apart n c (λ e. ne (sym e))) in
        let as_before : weigh new k ((c + 1) % k) n ≡ weigh_by (is_ready words n) (ahead k ((c + 1) % k) n) = ap (λ b. weigh_by b (ahead k ((c + 1) % k) n)) (same n ne) in
        let low = acknowledged_by (is_ready words n) (ahead k ((c + 1) % k) n) (ahead k c n) (nearer k c n ne l (omega (arith, m))) in
        omega (arith, off, as_before, low)

-- and with the same states everywhere
others_same : (words new : List ℕ) (k c n : ℕ) → ((j : ℕ) → is_ready new j ≡ is_ready words j) → others new k c n ≡ others words k c n
others_same words new k c zero same = refl
others_same words new k c (suc n) same =
    ap (λ (z : ℕ × Bool). z.0 + but (n == c) (weigh_by z.1 (ahead k c n))) (λ i. (others_same words new k c n same i, same n i))

-- a stored word of a block changes no state
block_store : (words : List ℕ) (c i value j : ℕ) → i ≤ 63 → is_ready (set words (c * 65 + (1 + i)) value) j ≡ is_ready words j
block_store words c i value j l = ap (λ z. z == ready) (get_or-set_other words (c * 65 + (1 + i)) (at j 0) value 0 other)
  where
    other : at j 0 ≢ c * 65 + (1 + i)
    other e = absurd (omega (arith, e, l))

-- a stored state is that of its channel alone
state_store : (words : List ℕ) (c value j : ℕ) → j ≢ c → is_ready (set words (at c 0) value) j ≡ is_ready words j
state_store words c value j n = ap (λ z. z == ready) (get_or-set_other words (at c 0) (at j 0) value 0 other)
  where
    other : at j 0 ≢ at c 0
    other e = n (omega (arith, e))

-- after the exchange from 3 to 4 the state is not 3
not_ready : (words : List ℕ) (c : ℕ) → at c 0 < length words → (b : Bool) → (get_or words (at c 0) 0 == 3) ≡ b
    → is_ready (set words (at c 0) (if b then 4 else get_or words (at c 0) 0)) c ≡ false
not_ready words c l true e = ap (λ z. z == 3) (get_or-set_same words (at c 0) 4 0 l)
not_ready words c l false e = ap (λ z. z == 3) (get_or-set_same words (at c 0) (get_or words (at c 0) 0) 0 l) ∙ e

-- the step of a worker of a target leaves fewer, if it is not an idle look and does not find the turn held
abbrev goes_on : Option ℕ → ℕ → WorkerStage → Bool
goes_on turn n Look = ltb 0 n
goes_on turn n (Take taken) = is_none turn
goes_on turn n _ = true

-- what a step leaves: no more, and fewer if it goes on
pub record Leaves (b : Bool) (after before : ℕ) : Type 0 where
  pub low : after ≤ before
  pub less : b ≡ true → after < before

end_high : (count end : ℕ) → is_end count end ≡ true → end ≤ 64
end_high count end h = grind (arith, nat_tests)

fewer : (b : Bool) (a n : ℕ) → a < n → Leaves b a n
fewer b a n l = record { low = omega (arith, l); less = λ e. l }

-- one worker, at channel c of k, with these words
module _ (w : WorldAt) (t k c : ℕ) (kept : IsWorld w) (there : t < length w.workers) (within : c < k) (few : k ≤ 8)
    (sized : length (words_of w.shared.words t) ≡ k * 65) where
  abbrev words : List ℕ
  words = words_of w.shared.words t

  abbrev at_this : WorkerStage → WorkerAt
  at_this stage = record { target = t; channels = k; channel = c; stage = stage }

  abbrev next : WorkerStage → WorkerAt
  next stage = worker_after (at_this stage) (on_worker w.shared t (at_this stage) (worker_plan (at_this stage))).seen

  abbrev new_words : WorkerStage → List ℕ
  new_words stage = words_of (on_worker w.shared t (at_this stage) (worker_plan (at_this stage))).shared.words t

  abbrev left_after : WorkerStage → ℕ
  left_after stage = left (next stage).channels (next stage).channel (new_words stage) (next stage).stage

  written : (new : List ℕ) → words_of (set w.shared.words t new) t ≡ new
  written new = get_or-set_same w.shared.words t new [] (words_listed w t kept there)

  -- by whether the channel is ready
  abbrev looked : Bool → WorkerAt
  looked b = if b then at_this Count else look_next (at_this Look)

  by_look : (b : Bool) → is_ready words c ≡ b
      → Leaves (ltb 0 (waiting words k c k)) (left (looked b).channels (looked b).channel words (looked b).stage) (waiting words k c k)
  by_look true e =
      let whole = split_above words k c k within in
      let here : weigh words k c c ≡ 91 + ahead k c c = ap (λ b. weigh_by b (ahead k c c)) e in
      fewer (ltb 0 (waiting words k c k)) (82 + others words k c k) (waiting words k c k) (omega (arith, whole, here))
  by_look false e =
      let falls = looks_fall words k c k within (itself k) e in
      record { low = falls.low; less = λ h. falls.less (above (waiting words k c k) h) }
    where
      above : (n : ℕ) → ltb 0 n ≡ true → 0 < n
      above n h = grind (arith, nat_tests)

  by_count : (count : ℕ) (b : Bool) → nat_lt 9 count ≡ b → left k c words (if b then Take (copied count 0 []) else End count) < 82 + others words k c k
  by_count count true e = omega arith
  by_count count false e = omega arith

  by_end : (count end : ℕ) (b : Bool) → is_end count end ≡ b → left k c words (if b then Copy count end [] else Take (copied count end [])) < 81 + others words k c k
  by_end count end true e = let high = end_high count end e in omega (arith, high)
  by_end count end false e = omega arith

  by_copy : (count end x : ℕ) (copy : List ℕ) → length copy < end → (b : Bool) → (length (copy ++ x ∷ []) == end) ≡ b
      → left k c words (if b then Take (copied count end (copy ++ x ∷ [])) else Copy count end (copy ++ x ∷ [])) < 16 + (end - length copy) + others words k c k
  by_copy count end x copy l true e = omega (arith, l)
  by_copy count end x copy l false e = let longer = length-append copy (x ∷ []) in omega (arith, l, longer)

  by_reply : (i new : ℕ) → i < 12 → new ≡ others words k c k → (b : Bool) → (i == 11) ≡ b
      → (if b then 1 + new else (13 - (i + 1)) + new) < (13 - i) + others words k c k
  by_reply i new l s true e = let same : i ≡ 11 = grind (arith, nat_tests) in omega (arith, same, s)
  by_reply i new l s false e = let ne = not_same i 11 e in omega (arith, l, s, ne)

  by_take : (taken : Copied) (turn : Option ℕ) → Leaves (is_none turn) (left k c words (if is_none turn then Answer taken else Take taken)) (16 + others words k c k)
  by_take taken None = fewer true (15 + others words k c k) (16 + others words k c k) (omega arith)
  by_take taken (Some holder) = record { low = omega arith; less = λ e. absurd (cc) }

  -- of the stage after a reply word
  reply_left : (b : Bool) (taken : Copied) (reply : List ℕ) (i : ℕ) (new : List ℕ)
      → left k c new (if b then Ack taken reply else Reply taken reply (i + 1)) ≡ (if b then 1 + others new k c k else (13 - (i + 1)) + others new k c k)
  reply_left true taken reply i new = refl
  reply_left false taken reply i new = refl

  pub step_leaves : (stage : WorkerStage) → IsSoundStage stage → Leaves (goes_on w.shared.turn (waiting words k c k) stage) (left_after stage) (left k c words stage)
  step_leaves Look s = by_look (is_ready words c) refl
  step_leaves Count s =
      let count = loaded words (record { channel = c; at = 1 + 2 }) in
      fewer true (left k c words (after_count count)) (82 + others words k c k) (by_count count (nat_lt 9 count) refl)
  step_leaves (End count) s =
      let end = offset_of (loaded words (record { channel = c; at = 1 + (15 + count) })) in
      fewer true (left k c words (after_end count end)) (81 + others words k c k) (by_end count end (is_end count end) refl)
  step_leaves (Copy count end copy) s =
      let x = loaded words (record { channel = c; at = 1 + length copy }) in
      fewer true (left k c words (after_copy count end (copy ++ x ∷ []))) (16 + (end - length copy) + others words k c k)
      (by_copy count end x copy s.3 (length (copy ++ x ∷ []) == end) refl)
  step_leaves (Take taken) s = by_take taken w.shared.turn
  step_leaves (Answer taken) s = fewer true (14 + others words k c k) (15 + others words k c k) (omega arith)
  step_leaves (Give taken reply) s = fewer true (13 + others words k c k) (14 + others words k c k) (omega arith)
  step_leaves (Reply taken reply i) s =
      let new = stored words (record { channel = c; at = 1 + (3 + i) }) (slice_index reply i) in
      let low = s.0 in
      let same : others new k c k ≡ others words k c k =
      others_same words new k c k (λ j. block_store words c (3 + i) (slice_index reply i) j (omega (arith, low))) in
      subst (λ (ws : List ℕ). Leaves true (left k c ws (after_reply taken reply i)) ((13 - i) + others words k c k)) (sym (written new))
      (subst (λ n. Leaves true n ((13 - i) + others words k c k)) (sym (reply_left (i == 11) taken reply i new))
      (fewer true _ ((13 - i) + others words k c k) (by_reply i (others new k c k) low same (i == 11) refl)))
  step_leaves (Ack taken reply) s =
      let value = exchanged (get_or words (at c 0) 0) 3 4 in
      let new = stored words (record { channel = c; at = 0 }) value in
      let inside : at c 0 < length words = omega (arith, within, sized) in
      let none = not_ready words c inside (get_or words (at c 0) 0 == 3) refl in
      let low = served words new k c k within (itself k) (λ j n. state_store words c value j n) none in
      subst (λ (ws : List ℕ). Leaves true (waiting ws k ((c + 1) % k) k) (1 + others words k c k)) (sym (written new))
      (fewer true (waiting new k ((c + 1) % k) k) (1 + others words k c k) (omega (arith, low)))

-- how many steps are left to the worker of a target, and to those of the first n
abbrev left_at : WorldAt → ℕ → ℕ
left_at w t = left (worker_at w t).channels (worker_at w t).channel (words_of w.shared.words t) (worker_at w t).stage

abbrev total : ℕ → WorldAt → ℕ
total zero w = 0
total (suc n) w = total n w + left_at w n

-- the worker's next step leaves fewer
abbrev moves : WorldAt → ℕ → Bool
moves w t =
    goes_on w.shared.turn (waiting (words_of w.shared.words t) (worker_at w t).channels (worker_at w t).channel (worker_at w t).channels) (worker_at w t).stage

-- the step of a worker of a target, for that target
own_left : (w : WorldAt) (t : ℕ) → IsWorld w → t < length w.workers → Leaves (moves w t) (left_at (worker_step w t) t) (left_at w t)
own_left w t kept there =
    let k = kept.workers t there in
    let x = worker_at w t in
    of_own w t kept there (λ x y s. Leaves (moves w t) (left y.channels y.channel (words_of s.words t) y.stage) (left_at w t))
    (step_leaves w t x.channels x.channel kept there k.within k.few k.sized x.stage k.sound)

-- another target's worker and words stay
pub record Stays (w v : WorldAt) (u : ℕ) : Type 0 where
  pub worker : worker_at v u ≡ worker_at w u
  pub words : words_of v.shared.words u ≡ words_of w.shared.words u

pub other_stays : (w : WorldAt) (t u : ℕ) → IsWorld w → t < length w.workers → u ≢ t → Stays w (worker_step w t) u
other_stays w t u kept there n = record {
  worker = get_or-set_other w.workers t u _ no_worker n;
  words = subst (λ (z : WorkerAt). words_of (on_worker w.shared t z (worker_plan z)).shared.words u ≡ words_of w.shared.words u) (sym (its_own w t kept there)) (by_stage (worker_at w t).stage);
}
  where
    by_stage : (stage : WorkerStage)
        → words_of (on_worker w.shared t (record (worker_at w t) { target = t; stage = stage }) (worker_plan (record (worker_at w t) { target = t; stage = stage }))).shared.words u
        ≡ words_of w.shared.words u
    by_stage (Reply taken reply i) = get_or-set_other w.shared.words t u _ [] n
    by_stage (Ack taken reply) = get_or-set_other w.shared.words t u _ [] n
    by_stage _ = refl

left_stays : (w v : WorldAt) (u : ℕ) → Stays w v u → left_at v u ≡ left_at w u
left_stays w v u s =
    ap (λ (z : WorkerAt × List ℕ). left z.0.channels z.0.channel z.1 z.0.stage) (λ i. (s.worker i, s.words i))

-- the first n after one step
step_total : (w : WorldAt) (t n : ℕ) → IsWorld w → t < length w.workers → (total n (worker_step w t) ≤ total n w) × (t < n → moves w t ≡ true → total n (worker_step w t) < total n w)
step_total w t zero kept there = (lit≤ tt, λ l e. absurd (omega (arith, l)))
step_total w t (suc n) kept there = by_place (ℕ_discrete n t) (step_total w t n kept there)
  where
    by_place : Dec (n ≡ t) → (total n (worker_step w t) ≤ total n w) × (t < n → moves w t ≡ true → total n (worker_step w t) < total n w)
        → (total (suc n) (worker_step w t) ≤ total (suc n) w) × (t < suc n → moves w t ≡ true → total (suc n) (worker_step w t) < total (suc n) w)
    by_place (yes s) front =
        let before = front.0 in
        let own : Leaves (moves w t) (left_at (worker_step w t) n) (left_at w n) =
        subst (λ z. Leaves (moves w t) (left_at (worker_step w t) z) (left_at w z)) (sym s) (own_left w t kept there) in
        let low = own.low in
        (omega (arith, before, low), λ l e. let less = own.less e in omega (arith, before, less))
    by_place (no ne) front =
        let first = front.0 in
        let same = left_stays w (worker_step w t) n (other_stays w t n kept there ne) in
        (omega (arith, first, same), λ l e. let less = front.1 (omega (arith, l, ne)) e in omega (arith, less, same))

-- a pass of the first n keeps the world, the number of workers, and those that are still to step
pub record Passed (w : WorldAt) (n : ℕ) : Type 0 where
  pub kept : IsWorld (pass_below n w)
  pub many : length (pass_below n w).workers ≡ length w.workers
  pub later : (u : ℕ) → n ≤ u → Stays w (pass_below n w) u
  pub fallen : total (length w.workers) (pass_below n w) ≤ total (length w.workers) w

passed : (w : WorldAt) (n : ℕ) → IsWorld w → n ≤ length w.workers → Passed w n
passed w zero kept l = record { kept = kept; many = refl; later = λ u h. record { worker = refl; words = refl }; fallen = itself (total (length w.workers) w) }
passed w (suc n) kept l =
    let p = passed w n kept (omega (arith, l)) in
    let many = p.many in
    let there : n < length (pass_below n w).workers = omega (arith, many, l) in
    let one = (step_total (pass_below n w) n (length w.workers) p.kept there).0 in
    let low = p.fallen in
    record {
      kept = worker_keeps (pass_below n w) n p.kept there;
      many = length-set (pass_below n w).workers n _ ∙ many;
      later = λ u h.
          let s = p.later u (omega (arith, h)) in
          let o = other_stays (pass_below n w) n u p.kept there (λ e. absurd (omega (arith, e, h))) in
          record { worker = o.worker ∙ s.worker; words = o.words ∙ s.words };
      fallen = omega (arith, one, low);
    }

-- a pass in which the step of worker i leaves fewer leaves fewer
pass_falls : (w : WorldAt) (i n : ℕ) → IsWorld w → n ≤ length w.workers → i < n → moves (pass_below i w) i ≡ true
    → total (length w.workers) (pass_below n w) < total (length w.workers) w
pass_falls w i zero kept l m e = absurd (omega (arith, m))
pass_falls w i (suc n) kept l m e =
    by_place (ℕ_discrete n i) (λ h. pass_falls w i n kept (omega (arith, l)) h e)
  where
    by_place : Dec (n ≡ i) → (i < n → total (length w.workers) (pass_below n w) < total (length w.workers) w)
        → total (length w.workers) (pass_below (suc n) w) < total (length w.workers) w
    by_place (yes s) front =
        let p = passed w n kept (omega (arith, l)) in
        let many = p.many in
        let low = p.fallen in
        let goes : moves (pass_below n w) n ≡ true = subst (λ z. moves (pass_below z w) z ≡ true) (sym s) e in
        let less = (step_total (pass_below n w) n (length w.workers) p.kept (omega (arith, many, l))).1 (omega (arith, l)) goes in
        omega (arith, low, less)
    by_place (no ne) front =
        let p = passed w n kept (omega (arith, l)) in
        let many = p.many in
        let before = front (omega (arith, m, ne)) in
        let one = (step_total (pass_below n w) n (length w.workers) p.kept (omega (arith, many, l))).0 in
        omega (arith, before, one)

-- the worker of a target looks, and no channel of the target is ready
abbrev is_idle : WorldAt → ℕ → Bool
is_idle w t = is_looking (worker_at w t).stage && not (has_ready (words_of w.shared.words t))

idle_stays : (w v : WorldAt) (u : ℕ) → Stays w v u → is_idle v u ≡ is_idle w u
idle_stays w v u s = ap (λ (z : WorkerAt × List ℕ). is_looking z.0.stage && not (has_ready z.1)) (λ i. (s.worker i, s.words i))

moves_stays : (w v : WorldAt) (u : ℕ) → Stays w v u → v.shared.turn ≡ w.shared.turn → moves v u ≡ moves w u
moves_stays w v u s e =
    ap (λ (z : WorkerAt × (List ℕ × Option ℕ)). goes_on z.1.1 (waiting z.1.0 z.0.channels z.0.channel z.0.channels) z.0.stage) (λ i. (s.worker i, (s.words i, e i)))

-- a ready channel waits
some_waiting : (words : List ℕ) (k c n : ℕ) → is_ready_below n words ≡ true → 0 < waiting words k c n
some_waiting words k c zero e = absurd (cc)
some_waiting words k c (suc n) e = by_test (is_ready words n) refl e (λ g. some_waiting words k c n g)
  where
    by_test : (b : Bool) → is_ready words n ≡ b → (b || is_ready_below n words) ≡ true → (is_ready_below n words ≡ true → 0 < waiting words k c n)
        → 0 < waiting words k c (suc n)
    by_test true f g front = let here : weigh words k c n ≡ 91 + ahead k c n = ap (λ b. weigh_by b (ahead k c n)) f in omega (arith, here)
    by_test false f g front = let before = front g in omega (arith, before)

-- if nobody has the turn, a worker that is not idle goes on
busy_moves : (w : WorldAt) (t : ℕ) → IsWorld w → t < length w.workers → w.shared.turn ≡ None → is_idle w t ≡ false → moves w t ≡ true
busy_moves w t kept there free busy =
    let x = kept.workers t there in
    by_stage (worker_at w t).channels (worker_at w t).channel (worker_at w t).stage w.shared.turn free x.sized busy
  where
    channels : (k : ℕ) → length (words_of w.shared.words t) ≡ k * 65 → length (words_of w.shared.words t) / 65 ≡ k
    channels k e = ap (λ n. n / 65) (e ∙ plus_none (k * 65)) ∙ div-mul-add k 65 0 (lit< tt)

    some_below : (n : ℕ) → 0 < n → ltb 0 n ≡ true
    some_below n h = grind (arith, nat_tests)

    ready_is : (b : Bool) → (true && not b) ≡ false → b ≡ true
    ready_is true e = refl
    ready_is false e = absurd (cc)

    by_stage : (k c : ℕ) (stage : WorkerStage) (turn : Option ℕ) → turn ≡ None → length (words_of w.shared.words t) ≡ k * 65
        → (is_looking stage && not (has_ready (words_of w.shared.words t))) ≡ false → goes_on turn (waiting (words_of w.shared.words t) k c k) stage ≡ true
    by_stage k c Look turn e s b =
        let some = ready_is (has_ready (words_of w.shared.words t)) b in
        let found : is_ready_below k (words_of w.shared.words t) ≡ true =
        subst (λ n. is_ready_below n (words_of w.shared.words t) ≡ true) (channels k s) some in
        some_below (waiting (words_of w.shared.words t) k c k) (some_waiting (words_of w.shared.words t) k c k found)
    by_stage k c (Take taken) turn e s b = ap (λ (o : Option ℕ). is_none o) e
    by_stage k c _ turn e s b = refl

-- an idle worker leaves the turn
idle_turn : (w : WorldAt) (t : ℕ) → is_idle w t ≡ true → (worker_step w t).shared.turn ≡ w.shared.turn
idle_turn w t e =
    by_stage (worker_at w t) (worker_at w t).stage (and_parts (is_looking (worker_at w t).stage) (not (has_ready (words_of w.shared.words t))) e).0
  where
    by_stage : (x : WorkerAt) (stage : WorkerStage) → is_looking stage ≡ true
        → (on_worker w.shared t (record x { stage = stage }) (worker_plan (record x { stage = stage }))).shared.turn ≡ w.shared.turn
    by_stage x Look e = refl
    by_stage x _ e = absurd (cc)

-- so a pass of idle workers leaves it
pass_turn : (w : WorldAt) (n : ℕ) → IsWorld w → n ≤ length w.workers → ((u : ℕ) → u < n → is_idle w u ≡ true) → (pass_below n w).shared.turn ≡ w.shared.turn
pass_turn w zero kept l idle = refl
pass_turn w (suc n) kept l idle =
    let p = passed w n kept (omega (arith, l)) in
    idle_turn (pass_below n w) n (idle_stays w (pass_below n w) n (p.later n (itself n)) ∙ idle n (omega arith))
    ∙ pass_turn w n kept (omega (arith, l)) (λ u h. idle u (omega (arith, h)))

-- the first of this many workers that is not idle, if there is one
first_busy : (w : WorldAt) (n : ℕ)
    → ((u : ℕ) → u < n → is_idle w u ≡ true) ⊎ ((i : ℕ) × (i < n) × (is_idle w i ≡ false) × ((u : ℕ) → u < i → is_idle w u ≡ true))
first_busy w zero = inl (λ u l. absurd (omega (arith, l)))
first_busy w (suc n) = ⊎_elim (λ all. by_test all (is_idle w n) refl) (λ f. inr (f.0, below f.0 f.1, f.2, f.3)) (first_busy w n)
  where
    below : (i : ℕ) → i < n → i < suc n
    below i l = omega (arith, l)

    by_test : ((u : ℕ) → u < n → is_idle w u ≡ true) → (b : Bool) → is_idle w n ≡ b
        → ((u : ℕ) → u < suc n → is_idle w u ≡ true) ⊎ ((i : ℕ) × (i < suc n) × (is_idle w i ≡ false) × ((u : ℕ) → u < i → is_idle w u ≡ true))
    by_test all true e = inl (λ u l. each u l (ℕ_discrete u n))
      where
        each : (u : ℕ) → u < suc n → Dec (u ≡ n) → is_idle w u ≡ true
        each u l (yes s) = subst (λ z. is_idle w z ≡ true) (sym s) e
        each u l (no ne) = all u (omega (arith, l, ne))
    by_test all false e = inr (n, last n, e, all)
      where
        last : (n : ℕ) → n < suc n
        last n = omega arith

-- if all workers are idle the world is settled
all_at : {X : Type 0} (p : X → Bool) (xs : List X) (d : X) → ((i : ℕ) → i < length xs → p (get_or xs i d) ≡ true) → list_all p xs ≡ true
all_at p [] d each = refl
all_at p (x ∷ xs) d each =
    let first : p x ≡ true = each 0 (omega arith) in
    let rest = all_at p xs d (λ i l. each (suc i) (omega (arith, l))) in
    rw (first, rest) refl

pub none_at : {X : Type 0} (p : X → Bool) (xs : List X) (d : X) → ((i : ℕ) → i < length xs → p (get_or xs i d) ≡ false) → list_any p xs ≡ false
none_at p xs d each = list_any_none p xs (All-from_get_or (λ x. p x ≡ false) xs d each)

idle_settled : (w : WorldAt) → IsWorld w → ((u : ℕ) → u < length w.workers → is_idle w u ≡ true) → is_settled w ≡ true
idle_settled w kept idle =
    let same = kept.words in
    let looking : list_all (λ worker. is_looking worker.stage) w.workers ≡ true =
    all_at (λ worker. is_looking worker.stage) w.workers no_worker
    (λ i l. (and_parts (is_looking (worker_at w i).stage) (not (has_ready (words_of w.shared.words i))) (idle i l)).0) in
    let none : some_ready w.shared.words ≡ false =
    none_at has_ready w.shared.words []
    (λ i l. is_false (has_ready (words_of w.shared.words i))
    (and_parts (is_looking (worker_at w i).stage) (not (has_ready (words_of w.shared.words i))) (idle i (omega (arith, same, l)))).1) in
    rw (looking, none) refl
  where
    is_false : (b : Bool) → not b ≡ true → b ≡ false
    is_false true e = absurd (cc)
    is_false false e = refl

-- a pass of a world that is not settled leaves fewer
unsettled_falls : (w : WorldAt) → IsWorld w → is_settled w ≡ false → total (length w.workers) (one_pass w) < total (length w.workers) w
unsettled_falls w kept busy = by_turn w.shared.turn refl
  where
    opposite : (b : Bool) → b ≡ true → b ≡ false → ⊥
    opposite true e f = absurd (cc)
    opposite false e f = absurd (cc)

    -- a worker in Answer or Give goes on
    holder_moves : (turn : Option ℕ) (n : ℕ) (stage : WorkerStage) → has_turn stage ≡ true → goes_on turn n stage ≡ true
    holder_moves turn n (Answer taken) e = refl
    holder_moves turn n (Give taken reply) e = refl
    holder_moves turn n _ e = absurd (cc)

    by_turn : (turn : Option ℕ) → w.shared.turn ≡ turn → total (length w.workers) (one_pass w) < total (length w.workers) w
    by_turn None e = ⊎_elim (λ idle. absurd (opposite (is_settled w) (idle_settled w kept idle) busy)) (λ f. at_first f.0 f.1 f.2 f.3) (first_busy w (length w.workers))
      where
        at_first : (i : ℕ) → i < length w.workers → is_idle w i ≡ false → ((u : ℕ) → u < i → is_idle w u ≡ true)
            → total (length w.workers) (one_pass w) < total (length w.workers) w
        at_first i l b before =
            let p = passed w i kept (omega (arith, l)) in
            let goes : moves (pass_below i w) i ≡ true =
            moves_stays w (pass_below i w) i (p.later i (itself i)) (pass_turn w i kept (omega (arith, l)) before) ∙ busy_moves w i kept l e b in
            pass_falls w i (length w.workers) kept (itself (length w.workers)) l goes
    by_turn (Some holder) e =
        let l = kept.holder holder e in
        let held : has_turn (worker_at w holder).stage ≡ true =
        (kept.workers holder l).turn ∙ (ap (λ turn. is_holder turn holder) e ∙ self_same holder) in
        let p = passed w holder kept (omega (arith, l)) in
        let s = p.later holder (itself holder) in
        let stays : has_turn (worker_at (pass_below holder w) holder).stage ≡ true = ap (λ (x : WorkerAt). has_turn x.stage) s.worker ∙ held in
        pass_falls w holder (length w.workers) kept (itself (length w.workers)) l
        (holder_moves (pass_below holder w).shared.turn _ (worker_at (pass_below holder w) holder).stage stays)

-- this many passes settle a world with this many steps left
settles : (n : ℕ) (w : WorldAt) → IsWorld w → total (length w.workers) w ≤ n → is_settled (drained_by n w) ≡ true
settles zero w kept few = by_test (is_settled w) refl
  where
    by_test : (b : Bool) → is_settled w ≡ b → is_settled w ≡ true
    by_test true e = e
    by_test false e = let less = unsettled_falls w kept e in absurd (omega (arith, less, few))
settles (suc n) w kept few =
    chosen (λ v. is_settled v ≡ true) (is_settled w) w (drained_by n (one_pass w)) (λ e. e)
    (λ e.
    let p = passed w (length w.workers) kept (itself (length w.workers)) in
    let less = unsettled_falls w kept e in
    settles n (one_pass w) p.kept (subst (λ m. total m (one_pass w) ≤ n) (sym p.many) (omega (arith, less, few))))

-- no worker has more than 866 steps left
ahead_few : (k c j : ℕ) (b : Bool) → nat_le c j ≡ b → c < k → j < k → ahead_by b k c j < k
ahead_few k c j true e l m = omega (arith, m)
ahead_few k c j false e l m = let high : j < c = grind (arith, nat_tests, e) in omega (arith, high)

weigh_few : (b : Bool) (n : ℕ) → n < 8 → weigh_by b n ≤ 98
weigh_few true n l = omega (arith, l)
weigh_few false n l = lit≤ tt

but_few : (b : Bool) (n : ℕ) → n ≤ 98 → but b n ≤ 98
but_few true n l = lit≤ tt
but_few false n l = l

module _ (words : List ℕ) (k c : ℕ) (within : c < k) (few : k ≤ 8) where
  one_few : (j : ℕ) → j < k → weigh words k c j ≤ 98
  one_few j l = let low = ahead_few k c j (nat_le c j) refl within l in weigh_few (is_ready words j) (ahead k c j) (omega (arith, low, few))

  waiting_few : (n : ℕ) → n ≤ k → waiting words k c n ≤ n * 98
  waiting_few zero l = lit≤ tt
  waiting_few (suc n) l =
      let before = waiting_few n (omega (arith, l)) in
      let one = one_few n (omega (arith, l)) in
      omega (arith, before, one)

  others_few : (n : ℕ) → n ≤ k → others words k c n ≤ n * 98
  others_few zero l = lit≤ tt
  others_few (suc n) l =
      let before = others_few n (omega (arith, l)) in
      let one = but_few (n == c) (weigh words k c n) (one_few n (omega (arith, l))) in
      omega (arith, before, one)

  left_few : (stage : WorkerStage) → IsSoundStage stage → left k c words stage ≤ 866
  left_few stage s =
      let all = waiting_few k (itself k) in
      let rest = others_few k (itself k) in
      by_stage stage s (omega (arith, all, few)) (omega (arith, rest, few))
    where
      by_stage : (stage : WorkerStage) → IsSoundStage stage → waiting words k c k ≤ 784 → others words k c k ≤ 784 → left k c words stage ≤ 866
      by_stage Look s all rest = omega (arith, all)
      by_stage (Copy count end copy) s all rest = let high = s.2 in omega (arith, rest, high)
      by_stage _ s all rest = omega (arith, rest)

total_few : (w : WorldAt) (n : ℕ) → IsWorld w → n ≤ length w.workers → total n w ≤ n * 866
total_few w zero kept l = lit≤ tt
total_few w (suc n) kept l =
    let before = total_few w n kept (omega (arith, l)) in
    let x = kept.workers n (omega (arith, l)) in
    let one = left_few (words_of w.shared.words n) (worker_at w n).channels (worker_at w n).channel x.within x.few (worker_at w n).stage x.sound in
    omega (arith, before, one)

pub drains_settle : DrainsSettle
drains_settle w kept =
    let all = total_few w (length w.workers) kept (itself (length w.workers)) in
    let few = kept.few in
    settles most_passes w kept (omega (arith, all, few))
