-- Each step of a seat is one step of the core.
use Rattle.std.proofs.Common.{◌≡◌, ◌∙◌, refl, ap, ℕ, Bool, cond, List, [], ◌∷◌, arith}
use Rattle.sb_statements.specs.declared.schedules.Actor.{Actor}
use Rattle.sb_core.specs.Laws.{StepsAreFolds}
use Rattle.sb_core.specs.Worlds.{steps}
use Rattle.sb_shared.specs.Events.{actors_of, is_same, steps_of, world_in}
use Rattle.sb_shared.specs.Origins.{start_of}
use Rattle.sb_shared.specs.Parts.{actor_in}
use Rattle.sb_shared.specs.Steps.{SeatsStepTheCore}
use Rattle.sb_shared.specs.declared.views.Event.TheVariants as event
use Rattle.sb_shared.proofs.Happened.{actors_step, same_self, steps_more}

pub seats_step_the_core : StepsAreFolds → SeatsStepTheCore
seats_step_the_core folds key from to seen before now s =
    let a = actor_in from in
    let script = key.script.value in
    let one : cond {A = ℕ} (is_same a a) 1 0 ≡ 1 = ap (λ (b : Bool). cond {A = ℕ} b 1 0) (same_self a) in
    let grown = ap (steps_of a) s.made in
    let more = steps_more a before (event.Step a ∷ []) in
    let first = ap (steps_of a) s.since.is in
    let apart = steps_more a seen s.since.since in
    let others = s.since.others 0 from refl in (
      ap (world_in key) s.made ∙ ap (λ (l : List Actor). steps script l (start_of key)) (actors_step before a) ∙ folds script (actors_of before) (a ∷ []) (start_of key),
      omega (arith, one, grown, more, first, apart, others),
    )
