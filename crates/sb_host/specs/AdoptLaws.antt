-- A worker that takes over channels which had one: it gives up each call that was handed over, one channel after another, and then serves as a new one.
use Rattle.std.specs.Prelude.{◌≡◌, ℕ, ◌<◌, ◌==◌, false, List, [], ◌∷◌, length}
use Rattle.sb_actor.specs.Acts.{abandoned, ready, state_word}
use Rattle.sb_actor.specs.Following.{act_wrote}
use Rattle.sb_actor.specs.Observations.{Observation}
use Rattle.sb_actor.specs.declared.acts.Act.TheVariants as act
use Rattle.sb_host.specs.HostWorkers.{HostAt, after_step, host_adopt, host_plan, host_start}

-- after steps that found this, one after another
abbrev pub after_steps : HostAt → List Observation → HostAt
after_steps h [] = h
after_steps h (seen ∷ found) = after_steps (after_step h seen) found

-- after fewer steps than there are channels, whatever they found, the next one exchanges the state of the channel of that number from 3 to 5
abbrev pub AdoptingGivesUp : Type 0
AdoptingGivesUp = (channels : ℕ) (found : List Observation) → length found < channels
    → host_plan (after_steps (host_adopt channels) found) ≡ act.Exchange 0 (state_word (length found)) ready abandoned

-- so that the state is not 3 after it, whatever it was
abbrev pub AdoptingLeavesNoneReady : Type 0
AdoptingLeavesNoneReady = (channels : ℕ) (found : List Observation) (state : ℕ) → length found < channels
    → (act_wrote (host_plan (after_steps (host_adopt channels) found)) state == ready) ≡ false

-- after as many steps as there are channels it is a worker before its first step
abbrev pub AdoptingEndsAsNew : Type 0
AdoptingEndsAsNew = (channels : ℕ) (found : List Observation) → length found ≡ channels → after_steps (host_adopt channels) found ≡ host_start channels
