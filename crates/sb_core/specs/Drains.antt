-- The drain: the workers serve what is still ready, while no thread makes a step.
use Rattle.std.specs.Prelude.{◌≡◌, ◌<◌, ◌≤◌, ℕ, zero, suc, Bool, true, false, not, ◌&&◌, length}
use Rattle.std.specs.List.{list_all}
use Rattle.sb_actor.specs.WorkerTable.{is_looking}
use Rattle.sb_core.specs.Words.{some_ready}
use Rattle.sb_core.specs.Worlds.{WorldAt, worker_step}

-- each worker is looking, and no state word is 3
abbrev pub is_settled : WorldAt → Bool
is_settled w = list_all (λ worker. is_looking worker.stage) w.workers && not (some_ready w.shared.words)

-- one step of the worker of each of the first n targets, in target order
abbrev pub pass_below : ℕ → WorldAt → WorldAt
pass_below zero w = w
pass_below (suc n) w = worker_step (pass_below n w) n

-- one step of each worker, in target order
abbrev pub one_pass : WorldAt → WorldAt
one_pass w = pass_below (length w.workers) w

-- at most n passes, until the world is settled, which is asked before each
abbrev pub drained_by : ℕ → WorldAt → WorldAt
drained_by zero w = w
drained_by (suc n) w = elim (is_settled w) [ true ↦ w | false ↦ drained_by n (one_pass w) ]

-- enough passes: a law says that every drain settles
abbrev pub most_passes : ℕ
most_passes = 10000

-- one step of each worker in target order, again and again, until each is looking and no state word is 3
abbrev pub drained : WorldAt → WorldAt
drained w = drained_by most_passes w

-- n whole passes
abbrev pub after_passes : ℕ → WorldAt → WorldAt
after_passes zero w = w
after_passes (suc n) w = one_pass (after_passes n w)

-- a beginning of the drain of a world: whole passes, and of one more a step of each of the first workers, where before no pass the world was settled
pub record IsBeginning (w v : WorldAt) : Type 0 where
  pub passes : ℕ
  pub workers : ℕ
  pub few : workers < length w.workers
  pub unsettled : (i : ℕ) → i ≤ passes → is_settled (after_passes i w) ≡ false
  pub is : v ≡ pass_below workers (after_passes passes w)
