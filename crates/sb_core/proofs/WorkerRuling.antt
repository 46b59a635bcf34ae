-- A step of a worker keeps the rule of each target.
use Rattle.std.proofs.Common.{◌≡◌, ◌≢◌, ◌∙◌, refl, ap, subst, sym, ℕ, ◌+◌, ◌*◌, ◌<◌, ◌≤◌, Bool, true, false, cond, ◌==◌, if◌then◌else◌, List, [], ◌∷◌, ◌++◌, length, length-set, map, take, Some, is_none}
use Rattle.std.proofs.lemmas.List.Elements.{filter-append}
use Rattle.sb_core.proofs.Names.{Ack, acknowledge, Answer, answer, append-nil, AreViews, as_call, calls_at, Copied, copied, Copy, copy, Count, Deed, Effect, End, Entry, entry_of, filter, Give, in_work, InRule, is_end, is_of_target, IsSoundStage, IsWorld, load_count, load_end, loaded, Look, look, look_next, map-append, nat_lt, offset_of, on_word, on_worker, RuleLaws, Script, Served, served_by, slice_index, Take, target_decision, TargetViews, threads_at, words_of, worker_after, worker_at, worker_deed, worker_place_of, worker_plan, worker_step, WorkerAt, WorkerStage, WorldAt, ℕ_discrete}
use Rattle.sb_actor.specs.Acts.{ready}
use Rattle.sb_actor.specs.WorkerStages.{Reply}
use Rattle.sb_actor.specs.Views as place
use Rattle.sb_core.proofs.ViewSteps.{worker_moves, worker_stays, named_words, names, tells}
use Rattle.sb_core.proofs.Settling.{other_stays}
use Rattle.sb_core.proofs.Existence.{target_low, words_listed, worker_act, of_own}
use Rattle.sb_core.proofs.Numbers.{apart, self_same}

-- the calls of a target after one more entry
calls_more : (t : ℕ) (es : List Entry) (e : Entry) (b : Bool) → (e.target == t) ≡ b → calls_at t (es ++ e ∷ []) ≡ calls_at t es ++ (if b then as_call e ∷ [] else [])
calls_more t es e b f =
    ap (λ (z : List Entry). map as_call z) (filter-append (is_of_target t) es (e ∷ []) ∙ ap (λ (z : List Entry). filter (is_of_target t) es ++ z) (one b f))
    ∙ (map-append as_call (filter (is_of_target t) es) (if b then e ∷ [] else []) ∙ last b)
  where
    one : (b : Bool) → (e.target == t) ≡ b → filter (is_of_target t) (e ∷ []) ≡ (if b then e ∷ [] else [])
    one true f = ap (λ c. cond {A = List Entry} c (e ∷ []) []) f
    one false f = ap (λ c. cond {A = List Entry} c (e ∷ []) []) f

    last : (b : Bool) → map as_call (filter (is_of_target t) es) ++ map as_call (if b then e ∷ [] else []) ≡ calls_at t es ++ (if b then as_call e ∷ [] else [])
    last true = refl
    last false = refl

-- no call is in work before and after
quiet : (calls served p : List Served) → p ≡ [] → calls ≡ served ++ [] → calls ≡ (served ++ []) ++ p
quiet calls served p e f = f ∙ (sym (append-nil (served ++ [])) ∙ ap (λ (z : List Served). (served ++ []) ++ z) (sym e))

-- the same call is in work before and after
busy_on : (calls served s p : List Served) (q : Served) → s ≡ [] → p ≡ q ∷ [] → calls ≡ served ++ q ∷ [] → calls ≡ (served ++ s) ++ p
busy_on calls served s p q e g f =
    f ∙ (ap (λ (z : List Served). z ++ q ∷ []) (sym (append-nil served)) ∙ ap (λ (z : List Served × List Served). (served ++ z.0) ++ z.1) (λ j. (sym e j, sym g j)))

module _ (laws : RuleLaws) (script : Script) (w : WorldAt) (t channels c : ℕ) (kept : IsWorld w) (there : t < length w.workers) (within : c < channels) (few : channels ≤ 8)
    (sized : length (words_of w.shared.words t) ≡ channels * 65) where
  abbrev at_this : WorkerStage → WorkerAt
  at_this stage = record { target = t; channels = channels; channel = c; stage = stage }

  abbrev effect : WorkerStage → Effect
  effect stage = on_worker w.shared t (at_this stage) (worker_plan (at_this stage))

  abbrev Before : WorkerStage → Type 0
  Before stage = (views : TargetViews) × AreViews script t (words_of w.shared.words t) (calls_at t w.shared.book.entries) (at_this stage) (threads_at w t) views

  abbrev After : WorkerStage → Type 0
  After stage =
      (views : TargetViews)
      × AreViews script t (words_of (effect stage).shared.words t) (calls_at t (effect stage).shared.book.entries) (worker_after (at_this stage) (effect stage).seen) (threads_at w t) views

  -- a step on a word
  on_words : (stage : WorkerStage) (d : Deed) → IsSoundStage stage → worker_deed stage ≡ Some d → names (worker_plan (at_this stage)) t ≡ true
      → ((served : List Served) → calls_at t w.shared.book.entries ≡ served ++ in_work c stage
      → calls_at t w.shared.book.entries
      ≡ (served ++ served_by c (worker_place_of stage) d)
      ++ in_work (worker_after (at_this stage) (on_word w.shared (worker_plan (at_this stage))).seen).channel (worker_after (at_this stage) (on_word w.shared (worker_plan (at_this stage))).seen).stage)
      → Before stage
      → (views : TargetViews)
      × AreViews script t (words_of (on_word w.shared (worker_plan (at_this stage))).shared.words t) (calls_at t w.shared.book.entries)
      (worker_after (at_this stage) (on_word w.shared (worker_plan (at_this stage))).seen) (threads_at w t) views
  on_words stage d sound deed named more before =
      let a = worker_plan (at_this stage) in
      let e = on_word w.shared (worker_plan (at_this stage)) in
      let m = worker_moves script t (words_of w.shared.words t) (calls_at t w.shared.book.entries) (at_this stage) (threads_at w t) before.0 before.1 laws d e.seen within sound deed
      (tells w.shared (worker_plan (at_this stage)) t named) more in (
        m.0,
        subst (λ (z : List ℕ). AreViews script t z (calls_at t w.shared.book.entries) (worker_after (at_this stage) e.seen) (threads_at w t) m.0)
            (sym (named_words w.shared (worker_plan (at_this stage)) t named (worker_act w.shared.words t channels c (target_low w t kept there) few (words_listed w t kept there) within sized stage sound))) m.1,
      )

  look_work : (b : Bool) → in_work (if b then at_this Count else look_next (at_this Look)).channel (if b then at_this Count else look_next (at_this Look)).stage ≡ []
  look_work true = refl
  look_work false = refl

  two_quiet : (b : Bool) (x y : WorkerStage) → in_work c x ≡ [] → in_work c y ≡ [] → in_work c (if b then x else y) ≡ []
  two_quiet true x y e f = e
  two_quiet false x y e f = f

  replying : (b : Bool) (taken : Copied) (reply : List ℕ) (i : ℕ) → in_work c (if b then Ack taken reply else Reply taken reply (i + 1)) ≡ record { channel = c; taken = taken; reply = reply } ∷ []
  replying true taken reply i = refl
  replying false taken reply i = refl

  no_served : (b : Bool) (taken : Copied) (reply : List ℕ) (x : ℕ) → served_by c (if b then place.Whole taken else place.Reply taken reply) (answer x) ≡ []
  no_served true taken reply x = refl
  no_served false taken reply x = refl

  takes : (b : Bool) (taken : Copied) → worker_place_of (if b then Answer taken else Take taken) ≡ place.Whole taken
  takes true taken = refl
  takes false taken = refl

  pub own_target : (stage : WorkerStage) → IsSoundStage stage → Before stage → After stage
  own_target Look s before =
      on_words Look look s refl (self_same t)
      (λ served e. quiet (calls_at t w.shared.book.entries) served _ (look_work (loaded (words_of w.shared.words t) (record { channel = c; at = 0 }) == ready)) e) before
  own_target Count s before =
      let count = loaded (words_of w.shared.words t) (record { channel = c; at = 1 + 2 }) in
      on_words Count load_count s refl (self_same t)
      (λ served e. quiet (calls_at t w.shared.book.entries) served _ (two_quiet (nat_lt 9 count) (Take (copied count 0 [])) (End count) refl refl) e) before
  own_target (End count) s before =
      let end = offset_of (loaded (words_of w.shared.words t) (record { channel = c; at = 1 + (15 + count) })) in
      on_words (End count) load_end s refl (self_same t)
      (λ served e. quiet (calls_at t w.shared.book.entries) served _ (two_quiet (is_end count end) (Copy count end []) (Take (copied count end [])) refl refl) e) before
  own_target (Copy count end words) s before =
      let x = loaded (words_of w.shared.words t) (record { channel = c; at = 1 + length words }) in
      on_words (Copy count end words) copy s refl (self_same t)
      (λ served e. quiet (calls_at t w.shared.book.entries) served _
      (two_quiet (length (words ++ x ∷ []) == end) (Take (copied count end (words ++ x ∷ []))) (Copy count end (words ++ x ∷ [])) refl refl) e) before
  own_target (Take taken) s before = (
    before.0,
    worker_stays script t (words_of w.shared.words t) (calls_at t w.shared.book.entries) (at_this (Take taken)) (threads_at w t) before.0 before.1
        (worker_after (at_this (Take taken)) (effect (Take taken)).seen) (calls_at t w.shared.book.entries) refl refl (takes (is_none w.shared.turn) taken)
        (λ served e. e ∙ ap (λ (z : List Served). served ++ z) (sym (two_quiet (is_none w.shared.turn) (Answer taken) (Take taken) refl refl))),
  )
  own_target (Answer taken) s before =
      let es = w.shared.book.entries in
      let e = entry_of w.shared.book.space t c taken (target_decision w.shared.book t taken) in (
        before.0,
        worker_stays script t (words_of w.shared.words t) (calls_at t w.shared.book.entries) (at_this (Answer taken)) (threads_at w t) before.0 before.1
            (worker_after (at_this (Answer taken)) (effect (Answer taken)).seen) (calls_at t (es ++ e ∷ [])) refl refl refl
            (λ served f. calls_more t es e true (self_same t) ∙ ap (λ (z : List Served). z ++ as_call e ∷ []) (f ∙ append-nil served)),
      )
  own_target (Give taken reply) s before = (
    before.0,
    worker_stays script t (words_of w.shared.words t) (calls_at t w.shared.book.entries) (at_this (Give taken reply)) (threads_at w t) before.0 before.1
        (worker_after (at_this (Give taken reply)) (effect (Give taken reply)).seen) (calls_at t w.shared.book.entries) refl refl refl (λ served e. e),
  )
  own_target (Reply taken reply i) s before =
      on_words (Reply taken reply i) (answer (slice_index reply i)) s refl (self_same t)
      (λ served e. busy_on (calls_at t w.shared.book.entries) served _ _ (record { channel = c; taken = taken; reply = reply })
      (no_served (i == 0) taken (take i reply) (slice_index reply i)) (replying (i == 11) taken reply i) e) before
  own_target (Ack taken reply) s before =
      on_words (Ack taken reply) acknowledge s refl (self_same t)
      (λ served e. e ∙ sym (append-nil (served ++ record { channel = c; taken = taken; reply = reply } ∷ []))) before

-- the calls of another target
module _ (w : WorldAt) (t u : ℕ) (x : WorkerAt) (ne : u ≢ t) where
  other_calls : (stage : WorkerStage) → calls_at u (on_worker w.shared t (record x { stage = stage }) (worker_plan (record x { stage = stage }))).shared.book.entries ≡ calls_at u w.shared.book.entries
  other_calls (Answer taken) =
      let e = entry_of w.shared.book.space t x.channel taken (target_decision w.shared.book t taken) in
      calls_more u w.shared.book.entries e false (apart t u ne) ∙ append-nil (calls_at u w.shared.book.entries)
  other_calls _ = refl

module _ (laws : RuleLaws) (script : Script) (w : WorldAt) (t : ℕ) (kept : IsWorld w) (there : t < length w.workers) where
  own_rule : InRule script w t → InRule script (worker_step w t) t
  own_rule before =
      let k = kept.workers t there in
      let x = worker_at w t in
      of_own w t kept there
      (λ x y s. ((views : TargetViews) × AreViews script t (words_of w.shared.words t) (calls_at t w.shared.book.entries) x (threads_at w t) views)
      → (views : TargetViews) × AreViews script t (words_of s.words t) (calls_at t s.book.entries) y (threads_at w t) views)
      (own_target laws script w t x.channels x.channel kept there k.within k.few k.sized x.stage k.sound) before

  other_rule : (u : ℕ) → u ≢ t → InRule script w u → InRule script (worker_step w t) u
  other_rule u ne before =
      let s = other_stays w t u kept there ne in (
        before.0,
        subst (λ (z : List ℕ × List Served × WorkerAt). AreViews script u z.0 z.1 z.2 (threads_at w u) before.0)
            (λ j. (sym s.words j, sym (other_calls w t u (worker_at w t) ne (worker_at w t).stage) j, sym s.worker j)) before.1,
      )

  -- each target
  pub worker_rules : ((u : ℕ) → u < length w.workers → InRule script w u) → (u : ℕ) → u < length (worker_step w t).workers → InRule script (worker_step w t) u
  worker_rules all u l = by_place (ℕ_discrete u t)
    where
      before : InRule script w u
      before = all u (subst (λ n. u < n) (length-set w.workers t _) l)

      by_place : Dec (u ≡ t) → InRule script (worker_step w t) u
      by_place (yes e) = subst (λ z. InRule script (worker_step w t) z) (sym e) (own_rule (subst (λ z. InRule script w z) e before))
      by_place (no ne) = other_rule u ne before
