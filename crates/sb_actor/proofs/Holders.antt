-- Who is at a clean channel.
use Rattle.std.proofs.Common.{◌≡◌, ◌≢◌, ◌⊎◌, inl, inr, ◌∙◌, refl, sym, ap, ℕ, zero, suc, ◌<◌, ◌≤◌, Bool, true, List, [], ◌∷◌, length, arith}
use mathlib.Core.Option.{some, some-injective, some-ne-none}
use lib.ListN.{get_elem?}
use Rattle.sb_actor.specs.Laws.{ChannelsHaveOneThread, IsHeldByOne}
use Rattle.sb_actor.specs.Moves.{is_clean}
use Rattle.sb_actor.specs.Rule.{Agrees, ChannelInvariant, Owner, Rule, has_reply, filling, idle, owner_of, place, sent, row, sees}
use Rattle.sb_actor.specs.Views.{Fetch, Fill, ThreadPlace, ThreadView, Try, Wait, WorkerView}

-- a thread that is at the channel is the one that the rule knows there
agreed : (k : ℕ) (p : ThreadPlace) (m : Owner) (c : ℕ) → place p ≡ some c → Agrees k p m → owner_of m ≡ some k
agreed k (Try d all_abandoned) m c e h = absurd (some-ne-none c (sym e))
agreed k (Fill d words) m c e h = ap owner_of h
agreed k (Wait d block) m c e (inl h) = ap owner_of h
agreed k (Wait d block) m c e (inr h) = ap owner_of h.1
agreed k (Fetch d block words) m c e h = ap owner_of h.1

listed : (l : List ThreadView) (k : ℕ) → k < length l → (v : ThreadView) × (get_elem? l k ≡ some v)
listed [] k h = absurd (omega (arith, h))
listed (x ∷ xs) zero h = (x, refl)
listed (x ∷ xs) (suc k) h = listed xs k (omega (arith, h))

module _ (clean : List Bool) (words : List ℕ) (worker : WorkerView) (threads : List ThreadView) (c : ℕ) (rule : Rule clean words worker threads) (e : is_clean clean c ≡ true) where
  owned : (i : ℕ) (v : ThreadView) → get_elem? threads i ≡ some v → place v.place ≡ some c → owner_of (rule.owners c) ≡ some i
  owned i v l p =
      let fits = rule.fits i v l in
      agreed v.number v.place (rule.owners c) c p (fits.agrees c p e) ∙ ap (λ (n : ℕ). some n) fits.number

  held : (k : ℕ) → owner_of (rule.owners c) ≡ some k → IsHeldByOne threads c
  held k o =
      let x = listed threads k (rule.fits_worker.owners_there c k e o) in
      let fits = rule.fits k x.0 x.1 in
      record {
        thread = k;
        view = x.0;
        listed = x.1;
        there = fits.only c e (o ∙ ap (λ (n : ℕ). some n) (sym fits.number));
        alone = λ i v l p. some-injective i k (sym (owned i v l p) ∙ o);
      }

  abbrev IsSo : Type 0
  IsSo =
      ((row words c 0 ≡ 1) × ((i : ℕ) (v : ThreadView) → get_elem? threads i ≡ some v → place v.place ≢ some c))
      ⊎ ((2 ≤ row words c 0) × (row words c 0 ≤ 4) × IsHeldByOne threads c)

  by_mid : (m : Owner) → rule.owners c ≡ m → ChannelInvariant m (sees c worker) (row words c) → IsSo
  by_mid idle is h = inl (h.0, λ i v l p. some-ne-none i (sym (owned i v l p) ∙ ap owner_of is))
  by_mid (filling k ended_calls) is h = let s = h.0 in inr (omega (arith, s), omega (arith, s), held k (ap owner_of is))
  by_mid (sent k block) is h = let s = h.0 in inr (omega (arith, s), omega (arith, s), held k (ap owner_of is))
  by_mid (has_reply k block reply) is h = let s = h.0 in inr (omega (arith, s), omega (arith, s), held k (ap owner_of is))

pub channels_have_one : ChannelsHaveOneThread
channels_have_one clean words worker threads c rule e = by_mid clean words worker threads c rule e (rule.owners c) refl (rule.each_channel c e)
