-- At any moment a thread's entries on clean channels are those of its results, with at most the one of its present call besides.
use Rattle.std.proofs.Common.{◌≡◌, ◌⊎◌, inl, inr, ⊎_elim, ◌∙◌, refl, ap, subst, sym, ℕ, ◌+◌, ◌/◌, ◌<◌, Bool, true, false, cond, ◌==◌, if◌then◌else◌, List, [], ◌∷◌, ◌++◌, length, map, get_or, take, slice_get, arith}
use Rattle.std.proofs.lemmas.List.Elements.{filter-append}
use Rattle.std.specs.Prelude.{Some}
use mathlib.Core.Option.{Option, none, some, some-ne-none}
use Rattle.sb_core.proofs.Names.{Abandon, has_reply, Agrees, and_parts, AnswersAreShort, AnswersKeepHistories, append-nil, AreViews, as_own, as_served, by_entry, by_result, calls_at, calls_of, ChannelInvariant, channel_in, clean_channels, Copied, drained, Entry, filling, filter, FitsThread, Free, EndedCall, idle, in_work, is_calling, is_entry_of, is_of, IsBlock, IsOwnSoFar, IsPresent, map-append, mark_of, Owner, nat_tests, no_run, opening, Over, own_calls, OwnCall, owner_of, place, played, RepliesAreOwn, RepliesComeBack, Row, row, RuleLaws, RunAt, RunsReplyOwn, Script, sees, Send, Served, served_at, SoundStatements, SoundTargets, start_world, steps, Stray, TargetViews, thread_count, thread_place_of, threads_at, ThreadStage, ThreadView, Wait, waiting, whole, words_of, worker_at, worker_place_of, WorkerAt, WorkerPlace, WorkerStage, WorldAt, WorldsOfScriptsReplyOwn}
use Rattle.sb_actor.specs.Moves.{is_clean}
use Rattle.sb_actor.specs.Rule.{sent}
use Rattle.sb_actor.specs.ThreadStages.{Fill, Fetch}
use Rattle.sb_actor.specs.WorkerStages as worker
use Rattle.sb_actor.specs.Views as stands
use Rattle.sb_core.specs.Fits.{Answered}
use Rattle.sb_core.proofs.Fitting.{had_results, read, served_entries, AreShort, legal_short}
use Rattle.sb_core.proofs.Belonging.{leads_of, of_end, of_run, Keeps}
use Rattle.sb_core.proofs.Reaching.{good_on}
use Rattle.sb_core.proofs.Ruling.{Ruled, ruled_of}
use Rattle.sb_core.proofs.Existence.{listed}
use Rattle.sb_core.proofs.Numbers.{is_same}

-- a worker that has copied from a clean channel is at a whole block there
pub record Engaged (m : Owner) (taken : Copied) : Type 0 where
  pub number : ℕ
  pub block : List ℕ
  pub is : m ≡ sent number block
  pub whole_block : IsBlock number block
  pub copy : taken ≡ whole block

-- the worker is engaged, and at a clean channel it then is at a whole block
abbrev IsAway : WorkerPlace → Type 0
IsAway p = p ≡ stands.Look → ⊥

copied_whole : (m : Owner) (taken : Copied) (f : Row) → IsAway (stands.Whole taken) → ChannelInvariant m (stands.Whole taken) f → Engaged m taken
copied_whole (sent k block) taken f n h = record { number = k; block = block; is = refl; whole_block = h.1; copy = h.2.1 }
copied_whole idle taken f n h = absurd (n h.1)
copied_whole (filling k words) taken f n h = absurd (n h.1)
copied_whole (has_reply k block reply) taken f n h = absurd (n h.2)

replied_whole : (m : Owner) (taken : Copied) (reply : List ℕ) (f : Row) → IsAway (stands.Reply taken reply) → ChannelInvariant m (stands.Reply taken reply) f → Engaged m taken
replied_whole (sent k block) taken reply f n h = record { number = k; block = block; is = refl; whole_block = h.1; copy = h.2.0 }
replied_whole idle taken reply f n h = absurd (n h.1)
replied_whole (filling k words) taken reply f n h = absurd (n h.1)
replied_whole (has_reply k block words) taken reply f n h = absurd (n h.2)

copied_apart : (taken : Copied) → IsAway (stands.Whole taken)
copied_apart taken e = cc

replied_apart : (taken : Copied) (reply : List ℕ) → IsAway (stands.Reply taken reply)
replied_apart taken reply e = cc

either_whole : (b : Bool) (m : Owner) (taken : Copied) (reply : List ℕ) (f : Row) → ChannelInvariant m (if b then stands.Whole taken else stands.Reply taken reply) f → Engaged m taken
either_whole true m taken reply f h = copied_whole m taken f (copied_apart taken) h
either_whole false m taken reply f h = replied_whole m taken reply f (replied_apart taken reply) h

-- if a thread is at a channel it is within a call
calling_at : (block : List ℕ) (stage : ThreadStage) (c : ℕ) → place (thread_place_of block stage) ≡ some c → is_calling stage ≡ true
calling_at block (Stray loads most) c e = absurd (some-ne-none c (sym e))
calling_at block Over c e = absurd (some-ne-none c (sym e))
calling_at block _ c e = refl

-- and its stage names that channel
same_channel : (d c : ℕ) → ◌≡◌ {A = Option ℕ} (some d) (some c) → channel_in (Send d) ≡ Some c
same_channel d c e = let same : d ≡ c = cc in ap Some same

channel_at : (block : List ℕ) (stage : ThreadStage) (c : ℕ) → place (thread_place_of block stage) ≡ some c → channel_in stage ≡ Some c
channel_at block (Fill d i) c e = same_channel d c e
channel_at block (Send d) c e = same_channel d c e
channel_at block (Wait d loads) c e = same_channel d c e
channel_at block (Fetch d words) c e = same_channel d c e
channel_at block (Free d words) c e = same_channel d c e
channel_at block (Abandon d) c e = same_channel d c e
channel_at block _ c e = absurd (some-ne-none c (sym e))

-- a thread at a channel with a whole block has that block
ready_block : (k number : ℕ) (block b : List ℕ) (stage : ThreadStage) (m : Owner) → Agrees k (thread_place_of block stage) m → (c : ℕ) → place (thread_place_of block stage) ≡ some c → m ≡ sent number b → b ≡ block
ready_block k number block b (Fill d i) m a c e f = absurd (cc)
ready_block k number block b (Send d) m a c e f = absurd (cc)
ready_block k number block b (Wait d loads) m a c e f = ⊎_elim (λ h. cc) (λ h. let g = h.1 in absurd (cc)) a
ready_block k number block b (Fetch d words) m a c e f = let g = a.1 in absurd (cc)
ready_block k number block b (Free d words) m a c e f = let g = a.1 in absurd (cc)
ready_block k number block b (Abandon d) m a c e f = ⊎_elim (λ h. cc) (λ h. let g = h.1 in absurd (cc)) a
ready_block k number block b _ m a c e f = absurd (some-ne-none c (sym e))

-- and so has one whose call is served
acked_block : (k number : ℕ) (block b reply : List ℕ) (stage : ThreadStage) (m : Owner) → Agrees k (thread_place_of block stage) m → (c : ℕ) → place (thread_place_of block stage) ≡ some c → m ≡ has_reply number b reply → b ≡ block
acked_block k number block b reply (Fill d i) m a c e f = absurd (cc)
acked_block k number block b reply (Send d) m a c e f = absurd (cc)
acked_block k number block b reply (Wait d loads) m a c e f = ⊎_elim (λ h. absurd (cc)) (λ h. let g = h.1 in cc) a
acked_block k number block b reply (Fetch d words) m a c e f = let g = a.1 in cc
acked_block k number block b reply (Free d words) m a c e f = let g = a.1 in cc
acked_block k number block b reply (Abandon d) m a c e f = ⊎_elim (λ h. absurd (cc)) (λ h. let g = h.1 in cc) a
acked_block k number block b reply _ m a c e f = absurd (some-ne-none c (sym e))

-- a target of a world in the rule
module _ (script : Script) (t : ℕ) (words : List ℕ) (entries : List Entry) (x : WorkerAt) (runs : List RunAt) (views : TargetViews)
    (h : AreViews script t words (calls_at t entries) x runs views) (come : RepliesComeBack) (short : AreShort entries) (k : ℕ) (there : k < length runs)
    (its_number : (get_or runs k no_run).thread.thread ≡ k) where
  abbrev clean : List Bool
  clean = clean_channels script t

  abbrev owners : ℕ → Owner
  owners = h.rule.owners

  abbrev mine : RunAt
  mine = get_or runs k no_run

  -- what the worker has in work for this thread: nothing, or the whole block of a clean channel
  abbrev Work : List Served → Type 0
  Work qs =
      (qs ≡ [])
      ⊎ ((q : Served) × (c : ℕ) × (block : List ℕ) × (qs ≡ q ∷ []) × (is_clean clean c ≡ true) × (owners c ≡ sent k block) × (q.taken ≡ whole block)
      × (q.channel ≡ c))

  seen_here : (c : ℕ) → x.channel ≡ c → sees c views.worker ≡ worker_place_of x.stage
  seen_here c e =
      let held = h.worker.holds in
      ap (λ b. cond b views.worker.place stands.Look) (self_same c views.worker.channel (held.channel ∙ e)) ∙ held.place
    where
      self_same : (c d : ℕ) → d ≡ c → (c == d) ≡ true
      self_same c d e = grind (arith, nat_tests)

  -- a call in work, by whether it is the thread's
  engaged : (q : Served) → (is_clean clean q.channel ≡ true → Engaged (owners q.channel) q.taken) → (b : Bool) → is_of clean k q ≡ b → Work (calls_of clean k (q ∷ []))
  engaged q f true e =
      let parts = and_parts (is_clean clean q.channel) (mark_of q.taken / 65536 == k + 1) e in
      let at = f parts.0 in
      let bears = is_same (mark_of q.taken / 65536) (k + 1) parts.1 in
      let mark : mark_of q.taken / 65536 ≡ at.number + 1 = ap (λ (c : Copied). mark_of c / 65536) at.copy ∙ at.whole_block.mark in
      let same : at.number ≡ k = omega (arith, bears, mark) in
      inr (q, q.channel, at.block, ap (λ b. cond {A = List Served} b (q ∷ []) []) e, parts.0, at.is ∙ ap (λ n. sent n at.block) same, at.copy, refl)
  engaged q f false e = inl (ap (λ b. cond {A = List Served} b (q ∷ []) []) e)

  work_by : (stage : WorkerStage) → x.stage ≡ stage → Work (calls_of clean k (in_work x.channel stage))
  work_by (worker.Give taken reply) e =
      let q : Served = record { channel = x.channel; taken = taken; reply = reply } in
      engaged q
      (λ cl. copied_whole (owners x.channel) taken (row words x.channel) (copied_apart taken)
      (subst (λ p. ChannelInvariant (owners x.channel) p (row words x.channel)) (seen_here x.channel refl ∙ ap worker_place_of e) (h.rule.each_channel x.channel cl)))
      (is_of clean k q) refl
  work_by (worker.Reply taken reply i) e =
      let q : Served = record { channel = x.channel; taken = taken; reply = reply } in
      engaged q
      (λ cl. either_whole (i == 0) (owners x.channel) taken (take i reply) (row words x.channel)
      (subst (λ p. ChannelInvariant (owners x.channel) p (row words x.channel)) (seen_here x.channel refl ∙ ap worker_place_of e) (h.rule.each_channel x.channel cl)))
      (is_of clean k q) refl
  work_by (worker.Ack taken reply) e =
      let q : Served = record { channel = x.channel; taken = taken; reply = reply } in
      engaged q
      (λ cl. replied_whole (owners x.channel) taken reply (row words x.channel) (replied_apart taken reply)
      (subst (λ p. ChannelInvariant (owners x.channel) p (row words x.channel)) (seen_here x.channel refl ∙ ap worker_place_of e) (h.rule.each_channel x.channel cl)))
      (is_of clean k q) refl
  work_by _ e = inl refl

  -- a served call that the thread has not ended: none, or that of its own block
  abbrev Rest : List EndedCall → Type 0
  Rest xs =
      (xs ≡ [])
      ⊎ ((q : EndedCall) × (c : ℕ) × (number : ℕ) × (reply : List ℕ) × (xs ≡ q ∷ []) × (place (thread_place_of mine.thread.block mine.thread.stage) ≡ some c)
      × (owners c ≡ has_reply number q.block reply) × (q.block ≡ mine.thread.block) × (q.channel ≡ c))

  abbrev view : ThreadView
  view = (h.threads k there).0

  fits : FitsThread clean owners views.worker.served k view
  fits = h.rule.fits k view (h.threads k there).1

  number_is : view.number ≡ k
  number_is = (h.threads k there).2.holds.number ∙ its_number

  agrees_at : (c : ℕ) → place (thread_place_of mine.thread.block mine.thread.stage) ≡ some c → is_clean clean c ≡ true
      → Agrees view.number (thread_place_of mine.thread.block mine.thread.stage) (owners c)
  agrees_at c e cl = subst (λ p. place p ≡ some c → Agrees view.number p (owners c)) (h.threads k there).2.holds.place (λ f. fits.agrees c f cl) e

  rest_at : (c : ℕ) → place (thread_place_of mine.thread.block mine.thread.stage) ≡ some c → (b : Bool) → is_clean clean c ≡ b → (m : Owner) → owners c ≡ m → Rest (cond b (served_at c m) [])
  rest_at c e false cl m f = inl refl
  rest_at c e true cl idle f = inl refl
  rest_at c e true cl (filling n ws) f = inl refl
  rest_at c e true cl (sent n block) f = inl refl
  rest_at c e true cl (has_reply n block reply) f =
      inr (
        record { channel = c; block = block; reply = reply },
        c,
        n,
        reply,
        refl,
        e,
        f,
        acked_block view.number n mine.thread.block block reply mine.thread.stage (owners c) (agrees_at c e cl) c e f,
        refl,
      )

  rest_by : (o : Option ℕ) → place (thread_place_of mine.thread.block mine.thread.stage) ≡ o → Rest (waiting clean owners o)
  rest_by none e = inl refl
  rest_by (some c) e = rest_at c e (is_clean clean c) refl (owners c) refl

  abbrev rest : List EndedCall
  rest = waiting clean owners (place (thread_place_of mine.thread.block mine.thread.stage))

  abbrev work : List Served
  work = calls_of clean k (in_work x.channel x.stage)

  abbrev own : List OwnCall
  own = own_calls script t k mine.results

  -- the entries are the results, what is not ended and what is in work
  all_entries : map by_entry (filter (is_entry_of script t k) entries) ≡ (map by_result own ++ map by_result (map as_own rest)) ++ map read work
  all_entries =
      let v = views.worker in
      let served : calls_of clean k v.served ≡ map as_served (view.ended_calls ++ rest) =
      ap (λ z. calls_of clean z v.served) (sym number_is)
      ∙ (fits.calls ∙ ap (λ p. map as_served (view.ended_calls ++ waiting clean owners (place p))) (h.threads k there).2.holds.place) in
      let told : map read (map as_served (view.ended_calls ++ rest)) ≡ map by_result own ++ map by_result (map as_own rest) =
      had_results (view.ended_calls ++ rest)
      ∙ (ap (λ (z : List OwnCall). map by_result z) (map-append as_own view.ended_calls rest ∙ ap (λ (z : List OwnCall). z ++ map as_own rest) (h.threads k there).2.has)
      ∙ map-append by_result own (map as_own rest)) in
      sym (served_entries come script t k entries short)
      ∙ (ap (λ (z : List Served). map read (calls_of clean k z)) h.worker.serves
      ∙ (ap (λ (z : List Served). map read z) (filter-append (is_of clean k) v.served (in_work x.channel x.stage))
      ∙ (map-append read (calls_of clean k v.served) work ∙ ap (λ (z : List Answered). z ++ map read work) (ap (λ (z : List Served). map read z) served ∙ told))))

  -- if the worker is at the thread's block, so is the thread
  at_ready : (c : ℕ) (block : List ℕ) → is_clean clean c ≡ true → owners c ≡ sent k block → place (thread_place_of mine.thread.block mine.thread.stage) ≡ some c
  at_ready c block cl e =
      subst (λ p. place p ≡ some c) (h.threads k there).2.holds.place (fits.only c cl (ap (λ m. owner_of m) e ∙ ap (λ n. some n) (sym number_is)))

  both_apart : (n c d : ℕ) (b block reply : List ℕ) → ◌≡◌ {A = Option ℕ} (some c) (some d) → owners c ≡ has_reply n b reply → owners d ≡ sent k block → ⊥
  both_apart n c d b block reply e f g = cc

  end : (xs : List EndedCall) (qs : List Served) → Rest xs → Work qs → (besides : List Answered)
      × ((map by_result own ++ map by_result (map as_own xs)) ++ map read qs ≡ map by_result own ++ besides) × IsPresent mine besides
  end xs qs (inl e) (inl f) = (
    [],
    ap (λ (z : List EndedCall × List Served). (map by_result own ++ map by_result (map as_own z.0)) ++ map read z.1) (λ j. (e j, f j)) ∙ append-nil (map by_result own ++ []),
    inl refl,
  )
  end xs qs (inr r) (inl f) = (
    by_result (as_own r.0) ∷ [],
    ap (λ (z : List EndedCall × List Served). (map by_result own ++ map by_result (map as_own z.0)) ++ map read z.1) (λ j. (r.4 j, f j)) ∙ append-nil (map by_result own ++ by_result (as_own r.0) ∷ []),
    inr (
      by_result (as_own r.0),
      refl,
      ap (λ (z : List ℕ). whole z) r.7,
      calling_at mine.thread.block mine.thread.stage r.1 r.5,
      channel_at mine.thread.block mine.thread.stage r.1 r.5 ∙ ap Some (sym r.8),
    ),
  )
  end xs qs (inl e) (inr w) =
      let here = at_ready w.1 w.2 w.4 w.5 in (
        read w.0 ∷ [],
        ap (λ (z : List EndedCall × List Served). (map by_result own ++ map by_result (map as_own z.0)) ++ map read z.1) (λ j. (e j, w.3 j))
            ∙ ap (λ (z : List Answered). z ++ read w.0 ∷ []) (append-nil (map by_result own)),
        inr (
          read w.0,
          refl,
          w.6 ∙ ap (λ (z : List ℕ). whole z) (ready_block view.number k mine.thread.block w.2 mine.thread.stage (owners w.1) (agrees_at w.1 here w.4) w.1 here w.5),
          calling_at mine.thread.block mine.thread.stage w.1 here,
          channel_at mine.thread.block mine.thread.stage w.1 here ∙ ap Some (sym w.7),
        ),
      )
  end xs qs (inr r) (inr w) =
      absurd (both_apart r.2 r.1 w.1 r.0.block w.2 r.3 (sym r.5 ∙ at_ready w.1 w.2 w.4 w.5) r.6 w.5)

  pub own_so_far : (besides : List Answered)
      × (map by_entry (filter (is_entry_of script t k) entries) ≡ map by_result own ++ besides) × IsPresent mine besides
  own_so_far =
      let last = end rest work (rest_by (place (thread_place_of mine.thread.block mine.thread.stage)) refl) (work_by x.stage refl) in
      (last.0, all_entries ∙ last.1, last.2)

-- each thread of a world that keeps the rule
module _ (script : Script) (w : WorldAt) (r : Keeps script (Ruled script) w) (come : RepliesComeBack) (short : AreShort w.shared.book.entries) where
  pub own_in_world : (t k : ℕ) → k < thread_count (slice_get script.targets t) → IsOwnSoFar script w t k
  own_in_world t k l =
      let m : k < length (threads_at w t) = subst (λ n. k < n) (sym (r.runs.threads t)) l in
      let few = r.kept.lists in
      let here = listed w.threads t k m in
      let v = r.has.rule t (omega (arith, few, here)) in
      own_so_far script t (words_of w.shared.words t) w.shared.book.entries (worker_at w t) (threads_at w t) v.0 v.1 come short k m (r.kept.threads t k m).its_number

pub reply_own_of : RuleLaws → SoundTargets → SoundStatements → AnswersKeepHistories → RepliesComeBack → AnswersAreShort → WorldsOfScriptsReplyOwn
reply_own_of laws targets statements answers come answered script w o =
    let good = (good_on targets statements answers o.policies script o.ready w (leads_of script w o)).has in
    own_in_world script w (ruled_of laws targets statements script w o) come
    (legal_short answered w.shared.book.setting (opening w.shared.book.setting.start) w.shared.book.entries good.history.legal)

pub replies_are_own : RuleLaws → SoundTargets → SoundStatements → AnswersKeepHistories → RepliesComeBack → AnswersAreShort → RepliesAreOwn
replies_are_own laws targets statements answers come answered policies script actors prepared there =
    reply_own_of laws targets statements answers come answered script (steps script actors (start_world policies script))
    (record { policies = policies; actors = actors; ready = prepared; there = there; reached = refl })

pub runs_reply_own : RuleLaws → SoundTargets → SoundStatements → AnswersKeepHistories → RepliesComeBack → AnswersAreShort → RunsReplyOwn
runs_reply_own laws targets statements answers come answered policies script schedule can t k l =
    let w = played policies script schedule in (
      reply_own_of laws targets statements answers come answered script w (of_run policies script schedule can) t k l,
      reply_own_of laws targets statements answers come answered script (drained w) (of_end targets statements policies script schedule can) t k l,
    )
