-- The step of a worker at Answer, and room for the result of a statement.
use Rattle.std.proofs.Common.{◌≡◌, refl, ◌<◌, ◌≤◌, ℕ, true, false, sym, ap, ◌∙◌, arith}
use Rattle.std.specs.Prelude.{Option, None, Some, IfSome, is_some}
use Rattle.sb_core.proofs.Names.{Act, Answer, is_answer, IsAnswer, Observation, on_answer, on_worker, SharedAt, StmtResult, taken_in, worker_after, worker_by, worker_plan, worker_row, worker_step_of, WorkerAt, WorkerStage}
use Rattle.sb_actor.specs.declared.acts.Act.TheVariants as act
use Rattle.sb_call.specs.declared.replies.Reply.{Reply as CallReply}
use Rattle.sb_actor.specs.Observations.{Answered}

-- a worker at Answer has a copy
pub has_copy : (w : WorkerAt) → worker_plan w ≡ act.Answer → is_some (taken_in w.stage) ≡ true
has_copy w e = by_stage w.stage (ap is_answer e)
  where
    by_stage : (stage : WorkerStage) → is_answer (worker_row w stage).step ≡ true → is_some (taken_in stage) ≡ true
    by_stage (Answer taken) h = refl
    by_stage _ h = absurd (cc)

-- and only there does the book reply
pub no_answer : (w : WorkerAt) (a : Act) (seen : Observation) → a ≡ worker_plan w → is_answer a ≡ false → IsAnswer w.stage seen
no_answer w a seen e h = by_stage w.stage (sym (ap is_answer e) ∙ h)
  where
    by_stage : (stage : WorkerStage) → is_answer (worker_row w stage).step ≡ false → IsAnswer stage seen
    by_stage (Answer taken) h = absurd (cc)
    by_stage _ h = tt

-- a list with room for most results has room for one of fewer
pub room_in : (ended : Option StmtResult) (made most room : ℕ) → IfSome ended (λ r. made < most) → most ≤ room → IfSome ended (λ r. made < room)
room_in None made most room h l = tt
room_in (Some r) made most room h l = omega arith

-- what the step of a worker at Answer leaves
pub answers : (s new : SharedAt) (t : ℕ) (x : WorkerAt) (reply : CallReply) → worker_plan x ≡ act.Answer
    → Answered reply ≡ (on_answer s t x (taken_in x.stage)).seen → new ≡ (on_answer s t x (taken_in x.stage)).shared
    → worker_step_of s t x ≡ record { shared = new; worker = worker_after x (Answered reply) }
answers s new t x reply p seen shared =
    ap (λ a. worker_by x (on_worker s t x a)) p ∙ sym (λ i. record { shared = shared i; worker = worker_after x (seen i) })
