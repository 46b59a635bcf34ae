-- Channels are taken over one after another.
use Rattle.std.specs.Prelude.{nat_lt, if◌then◌else◌}
use Rattle.std.proofs.Common.{◌≡◌, ◌∙◌, ℕ, zero, suc, ◌+◌, ◌<◌, ◌≤◌, Bool, true, false, ◌==◌, List, [], ◌∷◌, length, None, refl, sym, ap, subst, arith}
use Rattle.std.proofs.lemmas.Bool.Decides.{nat_tests}
use Rattle.sb_actor.specs.Acts.{abandoned, ready, state_word}
use Rattle.sb_actor.specs.Following.{act_wrote}
use Rattle.sb_actor.specs.Observations.{Observation}
use Rattle.sb_actor.specs.declared.acts.Act.{Act}
use Rattle.sb_actor.specs.declared.acts.Act.TheVariants as act
use Rattle.sb_host.specs.HostWorkers.{HostAt, after_step, first_worker, host_adopt, host_plan}
use Rattle.sb_host.specs.AdoptLaws.{AdoptingEndsAsNew, AdoptingGivesUp, AdoptingLeavesNoneReady, after_steps}

-- a worker that has taken over n channels
abbrev taking : ℕ → ℕ → HostAt
taking channels n = record { worker = first_worker channels; taken_over = n; decision = None }

one : (channels n : ℕ) (seen : Observation) → n < channels → after_step (taking channels n) seen ≡ taking channels (n + 1)
one channels n seen h = by (grind (arith, nat_tests, h))
  where
    by : nat_lt n channels ≡ true → after_step (taking channels n) seen ≡ taking channels (n + 1)
    by e = rw (e) refl

none : (n : ℕ) → n ≡ n + 0
none n = omega arith

before : (n more channels : ℕ) → n + suc more ≤ channels → n < channels
before n more channels h = omega (arith, h)

later : (n more channels : ℕ) → n + suc more ≤ channels → n + 1 + more ≤ channels
later n more channels h = omega (arith, h)

counted : (n more : ℕ) → n + 1 + more ≡ n + suc more
counted n more = omega arith

taken : (channels n : ℕ) (found : List Observation) → n + length found ≤ channels
    → after_steps (taking channels n) found ≡ taking channels (n + length found)
taken channels n [] h = ap (taking channels) (none n)
taken channels n (seen ∷ found) h =
    ap (λ x. after_steps x found) (one channels n seen (before n (length found) channels h))
    ∙ taken channels (n + 1) found (later n (length found) channels h)
    ∙ ap (taking channels) (counted n (length found))

from_none : (k : ℕ) → 0 + k ≡ k
from_none k = omega arith

few : (k channels : ℕ) → k < channels → 0 + k ≤ channels
few k channels h = omega (arith, h)

all_of : (k channels : ℕ) → k ≡ channels → 0 + k ≤ channels
all_of k channels h = omega (arith, h)

adopted : (channels : ℕ) (found : List Observation) → 0 + length found ≤ channels → after_steps (host_adopt channels) found ≡ taking channels (length found)
adopted channels found h = taken channels 0 found h ∙ ap (taking channels) (from_none (length found))

-- the step of a worker that takes over
given_up : (channels n : ℕ) → n < channels → host_plan (taking channels n) ≡ act.Exchange 0 (state_word n) ready abandoned
given_up channels n h = by (grind (arith, nat_tests, h))
  where
    by : nat_lt n channels ≡ true → host_plan (taking channels n) ≡ act.Exchange 0 (state_word n) ready abandoned
    by e = rw (e) refl

pub gives_up : AdoptingGivesUp
gives_up channels found h =
    ap host_plan (adopted channels found (few (length found) channels h)) ∙ given_up channels (length found) h

pub none_ready : AdoptingLeavesNoneReady
none_ready channels found state h =
    ap (λ (a : Act). act_wrote a state == ready) (gives_up channels found h) ∙ by (state == ready) refl
  where
    by : (b : Bool) → (state == ready) ≡ b → ((if state == ready then abandoned else state) == ready) ≡ false
    by true e = rw (e) refl
    by false e = rw (e) e

pub ends_as_new : AdoptingEndsAsNew
ends_as_new channels found h = adopted channels found (all_of (length found) channels h) ∙ ap (taking channels) h
