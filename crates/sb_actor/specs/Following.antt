-- The worker's step on a word is one that a worker in its view may make, and the view goes on as the worker does.
use Rattle.std.specs.Prelude.{◌≡◌, ℕ, ◌<◌, ◌==◌, Some, if◌then◌else◌}
use Rattle.sb_actor.specs.Acts.{value_in}
use Rattle.sb_actor.specs.Moves.{at, Deed, met, wrote, worker_view, WorkerMay}
use Rattle.sb_actor.specs.Ranges.{IsSoundStage}
use Rattle.sb_actor.specs.Ties.{worker_deed, HoldsWorker}
use Rattle.sb_actor.specs.WorkerStages.{WorkerAt}
use Rattle.sb_actor.specs.WorkerTable.{worker_plan, worker_after}
use Rattle.sb_actor.specs.declared.acts.Act.{Act}
use Rattle.sb_actor.specs.declared.acts.Act.TheVariants as act
use Rattle.sb_actor.specs.Observations.{Observation}
use Rattle.sb_actor.specs.Views.{WorkerView}

-- the word of a step on one, over all channels of the target
abbrev pub act_word : Act → ℕ
act_word (act.Load t word) = at word.channel word.at
act_word (act.Store t word value) = at word.channel word.at
act_word (act.Exchange t word from to) = at word.channel word.at
act_word _ = 0

-- the word after a step that found n there
abbrev pub act_wrote : Act → ℕ → ℕ
act_wrote (act.Store t word value) n = value
act_wrote (act.Exchange t word from to) n = if n == from then to else n
act_wrote _ n = n

-- a load and an exchange give what they found
abbrev pub Tells : Act → ℕ → Observation → Type 0
Tells (act.Load t word) n seen = value_in seen ≡ n
Tells (act.Exchange t word from to) n seen = value_in seen ≡ n
Tells _ n seen = Unit {0}

-- a step that is of a kind and found n: the worker may make it, the word is written as that kind writes it, and the view after it shows
-- the stage to which the worker then comes
pub record Follows (v : WorkerView) (w : WorkerAt) (d : Deed) (n : ℕ) (seen : Observation) : Type 0 where
  pub may : WorkerMay v v.place (act_word (worker_plan w)) d
  pub writes : act_wrote (worker_plan w) n ≡ wrote d (met d n) n
  pub holds : HoldsWorker (worker_view v d n) (worker_after w seen)

abbrev pub WorkerFollows : Type 0
WorkerFollows = (v : WorkerView) (w : WorkerAt) (d : Deed) (n : ℕ) (seen : Observation) → HoldsWorker v w → w.channel < w.channels → IsSoundStage w.stage
    → worker_deed w.stage ≡ Some d → Tells (worker_plan w) n seen → Follows v w d n seen
