-- Runs on the channels of one target.
use Rattle.std.proofs.Common.{◌≡◌, ℕ, ◌≤◌, Bool, true, false, cond, List, [], ◌∷◌, ◌++◌, length, map, sym, subst, arith}
use mathlib.Core.Option.{Option, none, some}
use Rattle.sb_actor.specs.Laws.{Starts, ThreadKeeps, WorkerKeeps}
use Rattle.sb_actor.specs.Moves.{is_clean}
use Rattle.sb_actor.specs.Rule.{Owner, idle, filling, sent, has_reply, Rule, as_served, calls_of, place, served_at, waiting}
use Rattle.sb_actor.specs.Views.{EndedCall, WorkerView}
use Rattle.sb_host.specs.ChannelLaws.{CallsHaveTheirReplies, Channels, ChannelStep, IsRun, IsStep, OfCaller, OfWorker, all_clean}

-- the rule holds of the words and the views
abbrev Holds : List Bool → Channels → Type 0
Holds clean s = Rule clean s.words s.worker s.callers

module _ (worker_keeps : WorkerKeeps) (thread_keeps : ThreadKeeps) where
  one : (clean : List Bool) (s : Channels) (step : ChannelStep) (next : Channels) → Holds clean s → IsStep s step next → Holds clean next
  one clean s (OfWorker w d) next rule is = subst (λ x. Holds clean x) (sym is.1) (worker_keeps clean s.words s.worker s.callers w d rule is.0)
  one clean s (OfCaller i w d) next rule is =
      subst (λ x. Holds clean x) (sym is.3) (thread_keeps clean s.words s.worker s.callers i w is.0 d rule is.1 is.2)

  all : (clean : List Bool) (steps : List ChannelStep) (s end : Channels) → Holds clean s → IsRun s steps end → Holds clean end
  all clean [] s end rule run = subst (λ x. Holds clean x) (sym run) rule
  all clean (step ∷ steps) s end rule run = all clean steps run.0 end (one clean s step run.0 rule run.1) run.2

-- at most one call is served and not yet ended
few_at : (c : ℕ) (m : Owner) → length (served_at c m) ≤ 1
few_at c idle = omega arith
few_at c (filling k words) = omega arith
few_at c (sent k block) = omega arith
few_at c (has_reply k block reply) = omega arith

few : (clean : List Bool) (owners : ℕ → Owner) (o : Option ℕ) → length (waiting clean owners o) ≤ 1
few clean owners none = omega arith
few clean owners (some c) = by (is_clean clean c) (served_at c (owners c)) (few_at c (owners c))
  where
    by : (b : Bool) (l : List EndedCall) → length l ≤ 1 → length (cond b l []) ≤ 1
    by true l h = h
    by false l h = omega arith

pub have_replies : Starts → WorkerKeeps → ThreadKeeps → CallsHaveTheirReplies
have_replies starts worker_keeps thread_keeps channels s end steps new run i v listed =
    let clean = all_clean channels in
    let rule : Holds clean s = subst (λ (w : WorkerView). Rule clean s.words w s.callers) (sym new.worker) (starts clean s.words s.callers new.size new.opened new.callers) in
    let after = all worker_keeps thread_keeps clean steps s end rule run in
    let fits = after.fits i v listed in
    let late = waiting clean after.owners (place v.place) in (
      late,
      few clean after.owners (place v.place),
      subst (λ k. calls_of clean k end.worker.served ≡ map as_served (v.ended_calls ++ late)) fits.number fits.calls,
    )
