-- The answer of a worker.
use Rattle.std.specs.Prelude.{is_some}
use Rattle.std.proofs.Common.{◌≡◌, ◌∙◌, ℕ, true, false, Option, None, Some, refl, sym, ap}
use Rattle.std.proofs.lemmas.Bool.{false≢true}
use Rattle.sb_call.specs.declared.replies.Answer.{Answer as HostAnswer}
use Rattle.sb_block.specs.Copies.{Copied, mark_of}
use Rattle.sb_book.specs.declared.decisions.Decision.{Decision}
use Rattle.sb_book.specs.declared.decisions.Decision.TheVariants.{Refused, Denied, Faked, Performed}
use Rattle.sb_actor.specs.Observations.{Observation, Answered}
use Rattle.sb_actor.specs.WorkerStages.{WorkerAt, WorkerStage, Look, Count, End, Copy, Take, Answer, Give, Reply, Ack}
use Rattle.sb_actor.specs.WorkerTable.{worker_plan, IsAnswer, taken_in}
use Rattle.sb_actor.specs.declared.acts.Act.TheVariants as act
use Rattle.sb_host.specs.Replies.{host_reply}
use Rattle.sb_host.specs.HostWorkers.{is_answer, copy_at}

-- a worker at this stage
abbrev pub at : WorkerAt → WorkerStage → WorkerAt
at w stage = record w { stage = stage }

-- the answer is the next step exactly if there is a copy to answer
pub answer_has_copy : (w : WorkerAt) → is_answer (worker_plan w) ≡ is_some (copy_at w.stage)
answer_has_copy w = by w w.stage
  where
    by : (w : WorkerAt) (stage : WorkerStage) → is_answer (worker_plan (at w stage)) ≡ is_some (copy_at stage)
    by w Look = refl
    by w Count = refl
    by w (End count) = refl
    by w (Copy count end words) = refl
    by w (Take taken) = refl
    by w (Answer taken) = refl
    by w (Give taken reply) = refl
    by w (Reply taken reply i) = refl
    by w (Ack taken reply) = refl

pub answer_is_planned : (w : WorkerAt) → is_some (copy_at w.stage) ≡ true → worker_plan w ≡ act.Answer
answer_is_planned w h = by w w.stage h
  where
    by : (w : WorkerAt) (stage : WorkerStage) → is_some (copy_at stage) ≡ true → worker_plan (at w stage) ≡ act.Answer
    by w Look h = absurd (false≢true h)
    by w Count h = absurd (false≢true h)
    by w (End count) h = absurd (false≢true h)
    by w (Copy count end words) h = absurd (false≢true h)
    by w (Take taken) h = absurd (false≢true h)
    by w (Answer taken) h = refl
    by w (Give taken reply) h = absurd (false≢true h)
    by w (Reply taken reply i) h = absurd (false≢true h)
    by w (Ack taken reply) h = absurd (false≢true h)

-- that copy is the one that was taken
pub taken_at_answer : (stage : WorkerStage) → is_some (copy_at stage) ≡ true → taken_in stage ≡ copy_at stage
taken_at_answer Look h = absurd (false≢true h)
taken_at_answer Count h = absurd (false≢true h)
taken_at_answer (End count) h = absurd (false≢true h)
taken_at_answer (Copy count end words) h = absurd (false≢true h)
taken_at_answer (Take taken) h = absurd (false≢true h)
taken_at_answer (Answer taken) h = refl
taken_at_answer (Give taken reply) h = absurd (false≢true h)
taken_at_answer (Reply taken reply i) h = absurd (false≢true h)
taken_at_answer (Ack taken reply) h = absurd (false≢true h)

-- elsewhere than at the answer a step may find anything
pub no_answer : (stage : WorkerStage) (seen : Observation) → is_some (copy_at stage) ≡ false → IsAnswer stage seen
no_answer Look seen h = tt
no_answer Count seen h = tt
no_answer (End count) seen h = tt
no_answer (Copy count end words) seen h = tt
no_answer (Take taken) seen h = tt
no_answer (Answer taken) seen h = absurd (false≢true (sym h))
no_answer (Give taken reply) seen h = tt
no_answer (Reply taken reply i) seen h = tt
no_answer (Ack taken reply) seen h = tt

-- a reply has the mark that it is given
marked : (mark : ℕ) (d : Decision) (a : HostAnswer) → (host_reply mark d a).mark ≡ mark
marked mark (Refused f) a = refl
marked mark (Denied tag verdict) a = refl
marked mark (Faked tag line) a = refl
marked mark (Performed tag line action args) a = refl

abbrev copy_in : Copied → Option Copied → Copied
copy_in c None = c
copy_in c (Some d) = d

-- so it answers the copy whose mark it is given
pub marked_answer : (stage : WorkerStage) (copy : Copied) (d : Decision) (a : HostAnswer) → copy_at stage ≡ Some copy
    → IsAnswer stage (Answered (host_reply (mark_of copy) d a))
marked_answer Look copy d a h = tt
marked_answer Count copy d a h = tt
marked_answer (End count) copy d a h = tt
marked_answer (Copy count end words) copy d a h = tt
marked_answer (Take taken) copy d a h = tt
marked_answer (Answer taken) copy d a h = marked (mark_of copy) d a ∙ ap (λ c. mark_of (copy_in copy c)) (sym h)
marked_answer (Give taken reply) copy d a h = tt
marked_answer (Reply taken reply i) copy d a h = tt
marked_answer (Ack taken reply) copy d a h = tt
