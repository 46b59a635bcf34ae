-- How many steps there are with one more line.
use Rattle.std.proofs.Common.{◌≡◌, ℕ, ◌+◌, List, [], ◌∷◌, ◌++◌}
use Rattle.std.proofs.lemmas.List.Sums.{sum_by_push}
use Rattle.sb_scripttext.specs.ScheduleDrafts.{step_count}
use Rattle.sb_statements.specs.declared.schedules.Actor.{Actor}

pub one_more : (steps : List (Actor × ℕ)) (step : Actor × ℕ) → step_count (steps ++ step ∷ []) ≡ step_count steps + step.1
one_more steps step = sum_by_push (λ s. s.1) steps step
