-- What the rule tells a thread of the channel at which it is: no clean channel is given up, it holds the thread's own block until it holds the reply, and the
-- reply has the mark of the block.
use Rattle.std.proofs.Common.{◌≡◌, ◌≢◌, ◌∙◌, refl, ap, subst, sym, ℕ, ◌<◌, Bool, true, false, List, [], ◌∷◌, length, get_or, take, arith}
use mathlib.Core.Option.{some}
use Rattle.sb_core.proofs.Names.{has_reply, act_word, Agrees, AllAbandoned, AreViews, ChannelInvariant, clean_channels, filling, FitsThread, GivesUp, idle, IsSoundThreadStage, mark_in, Owner, no_run, place, Row, row, RunAt, Script, sees, Served, slice_index, take_all, TargetViews, thread_place_of, thread_plan, ThreadAt, ThreadPlace, ThreadStage, ThreadView, WorkerAt, WorkerPlace}
use Rattle.sb_actor.specs.Moves.{is_clean}
use Rattle.sb_actor.specs.Rule.{sent}
use Rattle.sb_actor.specs.ThreadStages as thread
use Rattle.sb_actor.specs.Views.{Try, Fill, Fetch}
use Rattle.sb_core.proofs.ThreadResults.{Learns, Waits}

-- no clean channel is in state 5
state_known : (m : Owner) (p : WorkerPlace) (f : Row) → ChannelInvariant m p f → f 0 ≢ 5
state_known idle p f h e = let s = h.0 in absurd (omega (arith, s, e))
state_known (filling k words) p f h e = let s = h.0 in absurd (omega (arith, s, e))
state_known (sent k block) p f h e = let s = h.0 in absurd (omega (arith, s, e))
state_known (has_reply k block reply) p f h e = let s = h.0 in absurd (omega (arith, s, e))

-- a channel that a thread fills is in state 2
state_filling : (m : Owner) (k : ℕ) (words : List ℕ) (p : WorkerPlace) (f : Row) → m ≡ filling k words → ChannelInvariant m p f → f 0 ≡ 2
state_filling m k words p f e h = (subst (λ z. ChannelInvariant z p f) e h).0

-- the twelve words that were fetched are those of a reply to the block
fetched_mark : (m : Owner) (k : ℕ) (block words : List ℕ) (p : WorkerPlace) (f : Row) → (reply : List ℕ) → m ≡ has_reply k block reply → words ≡ take (length words) reply → length words ≡ 12
    → ChannelInvariant m p f → slice_index words 0 ≡ mark_in block
fetched_mark m k block words p f reply e t n h =
    let c : ChannelInvariant (has_reply k block reply) p f = subst (λ z. ChannelInvariant z p f) e h in
    let r = c.3 in
    let size = r.size in
    ap (λ (z : List ℕ). slice_index z 0) (t ∙ (ap (λ z. take z reply) n ∙ take_all 12 reply (omega (arith, size)))) ∙ r.mark

module _ (script : Script) (t : ℕ) (words : List ℕ) (calls : List Served) (x : WorkerAt) (runs : List RunAt) (views : TargetViews)
    (h : AreViews script t words calls x runs views) (k : ℕ) (there : k < length runs) where
  abbrev mine : ThreadAt
  mine = (get_or runs k no_run).thread

  abbrev clean : List Bool
  clean = clean_channels script t

  -- what the rule says of the channel
  module _ (v : ThreadView) (block : List ℕ) (its_clean : mine.clean ≡ clean) (fits : FitsThread clean h.rule.owners views.worker.served k v) where
    cleaned : (c : ℕ) → is_clean mine.clean c ≡ true → is_clean clean c ≡ true
    cleaned c e = subst (λ z. is_clean z c ≡ true) its_clean e

    agrees_at : (c : ℕ) (p : ThreadPlace) → v.place ≡ p → place p ≡ some c → is_clean mine.clean c ≡ true → Agrees v.number p (h.rule.owners c)
    agrees_at c p e q cl = subst (λ z. place z ≡ some c → Agrees v.number z (h.rule.owners c)) e (λ z. fits.agrees c z (cleaned c cl)) q

    all_abandoned_at : (c : ℕ) (all_abandoned : Bool) → v.place ≡ Try c all_abandoned → all_abandoned ≡ true → (d : ℕ) → d < c → is_clean mine.clean d ≡ false
    all_abandoned_at c all_abandoned e f d l = subst (λ z. is_clean z d ≡ false) (sym its_clean) ((subst (λ z. AllAbandoned clean z) e fits.all_abandoned) f d l)

    learns : (stage : ThreadStage) → v.place ≡ thread_place_of block stage → mine.block ≡ block → IsSoundThreadStage (length mine.clean) mine.patience block stage → GivesUp mine.clean stage
        → Waits script mine stage → Learns script mine stage (slice_index words (act_word (thread_plan script (record mine { stage = stage }))))
    learns (thread.Try c rounds all_abandoned) e b s g w =
        ((λ cl. state_known (h.rule.owners c) (sees c views.worker) (row words c) (h.rule.each_channel c (cleaned c cl))), all_abandoned_at c all_abandoned e)
    learns (thread.Send c) e b s g w = λ cl.
        state_filling (h.rule.owners c) v.number block (sees c views.worker) (row words c) (agrees_at c (Fill c block) e refl cl) (h.rule.each_channel c (cleaned c cl))
    learns (thread.Free c fetched) e b s g w = λ cl.
        let a = agrees_at c (Fetch c block fetched) e refl cl in
        fetched_mark (h.rule.owners c) v.number block fetched (sees c views.worker) (row words c) a.0 a.1 a.3 s.1 (h.rule.each_channel c (cleaned c cl))
        ∙ ap (λ (z : List ℕ). mark_in z) (sym b)
    learns (thread.Abandon c) e b s g w = g
    learns (thread.Stray loads most) e b s g w = w
    learns _ e b s g w = tt

  pub learned : IsSoundThreadStage (length mine.clean) mine.patience mine.block mine.stage → GivesUp mine.clean mine.stage → Waits script mine mine.stage
      → Learns script mine mine.stage (slice_index words (act_word (thread_plan script mine)))
  learned sound gives waits =
      let view = h.threads k there in
      let v = view.0 in
      let held = view.2.holds in
      let fits : FitsThread clean h.rule.owners views.worker.served k v = h.rule.fits k v view.1 in
      learns v mine.block (sym held.clean ∙ fits.its_clean) fits mine.stage held.place refl sound gives waits
