-- The step of an actor that is there is on words that are there, and keeps what every world keeps, and what a world keeps of its script.
use Rattle.std.proofs.Common.{◌≡◌, ◌∙◌, ap, subst, sym, ℕ, ◌<◌, true, length, slice_get, arith}
use Rattle.sb_core.proofs.Names.{is_there, IsRunning, IsWorld, nat_lt, nat_tests, PlansAreThere, Script, SoundStatements, StepsKeep, Thread, thread_count, threads_at, Worker, worker_step, WorldAt}
use Rattle.sb_core.proofs.WorkerKeeping.{worker_keeps, worker_setting}
use Rattle.sb_core.proofs.Existence.{as_many, thread_there, worker_there}
use Rattle.sb_core.proofs.ThreadKeeping.{thread_keeps, thread_runs}

below : (a b : ℕ) → nat_lt a b ≡ true → a < b
below a b e = grind (arith, nat_tests)

-- the worker of a target that is there
pub worker_is_there : (script : Script) (w : WorldAt) (t : ℕ) → IsWorld w → IsRunning script w → is_there script.targets (Worker t) ≡ true → t < length w.workers
worker_is_there script w t kept runs e =
    let low = below t (length script.targets) e in
    let n = as_many script w kept runs in
    omega (arith, low, n)

-- the thread of a target that is there
pub thread_is_there : (script : Script) (w : WorldAt) (t k : ℕ) → IsRunning script w → is_there script.targets (Thread t k) ≡ true → k < length (threads_at w t)
thread_is_there script w t k runs e = subst (λ n. k < n) (sym (runs.threads t)) (below k (thread_count (slice_get script.targets t)) e)

-- the step of an actor that is there
pub plans_are_there : SoundStatements → PlansAreThere
plans_are_there law script w (Worker t) kept runs e = worker_there w t kept (worker_is_there script w t kept runs e)
plans_are_there law script w (Thread t k) kept runs e = thread_there script w kept runs t k (thread_is_there script w t k runs e) law

-- a step of a worker leaves the threads and the setting
pub worker_runs : (script : Script) (w : WorldAt) (t : ℕ) → IsWorld w → IsRunning script w → t < length w.workers → IsRunning script (worker_step w t)
worker_runs script w t kept runs there = record {
  policies = runs.policies;
  ready = runs.ready;
  channels = ap (λ setting. setting.channels) (worker_setting w t kept there) ∙ runs.channels;
  targets = runs.targets;
  threads = runs.threads;
  stands = runs.stands;
}

pub step_keeps : SoundStatements → StepsKeep
step_keeps law script w (Worker t) kept runs e =
    let there = worker_is_there script w t kept runs e in
    (worker_keeps w t kept there, worker_runs script w t kept runs there)
step_keeps law script w (Thread t k) kept runs e =
    let there = thread_is_there script w t k runs e in
    (thread_keeps script w t k kept runs there law, thread_runs script w t k kept runs there law)
