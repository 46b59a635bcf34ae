-- The steps of a host are ones that its worker may make.
use Rattle.std.specs.Prelude.{is_some}
use Rattle.std.proofs.Common.{◌≡◌, ℕ, Bool, true, false, ◌==◌, Option, None, Some, refl, sym, ap, subst}
use Rattle.std.proofs.lemmas.Bool.{false≢true}
use Rattle.sb_call.specs.declared.replies.Answer.{Answer as HostAnswer}
use Rattle.sb_block.specs.Copies.{Copied}
use Rattle.sb_book.specs.declared.decisions.Decision.{Decision}
use Rattle.sb_rule.specs.declared.policies.Policy.{Policy}
use Rattle.sb_actor.specs.Acts.{turn_in}
use Rattle.sb_actor.specs.Following.{Follows, Tells, WorkerFollows, act_word, act_wrote}
use Rattle.sb_actor.specs.Moves.{Deed, WorkerMay, met, worker_view, wrote}
use Rattle.sb_actor.specs.Observations.{Observation}
use Rattle.sb_actor.specs.Ties.{HoldsWorker, worker_deed, worker_place_of}
use Rattle.sb_actor.specs.Views.{WorkerView}
use Rattle.sb_actor.specs.WorkerStages.{WorkerAt, WorkerStage, Look, Count, End, Copy, Take, Answer, Give, Reply, Ack}
use Rattle.sb_actor.specs.WorkerTable.{worker_after, worker_plan}
use Rattle.sb_actor.specs.declared.acts.Act.{Act}
use Rattle.sb_host.specs.ChannelLaws.{AnswersAreUnseen, DecisionsAreUnseen, HostGoes, HostsGoAsWorkers, ShowsHost, TurnsAreUnseen}
use Rattle.sb_host.specs.HostWorkers.{HostAt, after_answer, after_answer_to, after_decision, after_step, copy_at, copy_to_answer, decided_by, host_plan, is_taking_over}

-- a step on a word is not the answer
no_copy : (s : WorkerStage) (d : Deed) → worker_deed s ≡ Some d → is_some (copy_at s) ≡ false
no_copy Look d is = refl
no_copy Count d is = refl
no_copy (End count) d is = refl
no_copy (Copy count end words) d is = refl
no_copy (Take copy) d is = refl
no_copy (Answer copy) d is = absurd (false≢true (ap is_some is))
no_copy (Give copy reply) d is = refl
no_copy (Reply copy reply i) d is = refl
no_copy (Ack copy reply) d is = refl

-- a host that takes over no channel plans as its worker does
planned : (h : HostAt) → is_taking_over h ≡ false → host_plan h ≡ worker_plan h.worker
planned h e = rw (e) refl

-- and goes on as its worker does
gone_on : (h : HostAt) (seen : Observation) → is_taking_over h ≡ false → is_some (copy_at h.worker.stage) ≡ false
    → (after_step h seen).worker ≡ worker_after h.worker seen
gone_on h seen e c = rw (e, c) refl

pub as_workers : WorkerFollows → HostsGoAsWorkers
as_workers follows v h d n seen shows is tells =
    let plan = planned h shows.serves in let next = gone_on h seen shows.serves (no_copy h.worker.stage d is) in
    let f : Follows v h.worker d n seen =
    follows v h.worker d n seen shows.worker shows.channel_there shows.sound is (subst (λ (a : Act). Tells a n seen) plan tells) in record {
      may = subst (λ (a : Act). WorkerMay v v.place (act_word a) d) (sym plan) f.may;
      writes = subst (λ (a : Act). act_wrote a n ≡ wrote d (met d n) n) (sym plan) f.writes;
      holds = subst (λ (w : WorkerAt). HoldsWorker (worker_view v d n) w) (sym next) f.holds;
    }

-- a worker at a stage of the same place is shown by the same view
abbrev at : WorkerAt → WorkerStage → WorkerAt
at w stage = record w { stage = stage }

shown : (v : WorkerView) (w : WorkerAt) (s t : WorkerStage) → worker_place_of s ≡ worker_place_of t → HoldsWorker v (at w s) → HoldsWorker v (at w t)
shown v w s t same holds = record { channels = holds.channels; channel = holds.channel; place = subst (λ p. v.place ≡ p) same holds.place }

-- a host at a stage
abbrev host : HostAt → WorkerStage → HostAt
host h s = record h { worker = at h.worker s }

turns : (v : WorkerView) (h : HostAt) (seen : Observation) (s : WorkerStage) → is_taking_over h ≡ false → worker_deed s ≡ None
    → HoldsWorker v (at h.worker s) → HoldsWorker v (after_step (host h s) seen).worker
turns v h seen Look e is holds = absurd (false≢true (sym (ap is_some is)))
turns v h seen Count e is holds = absurd (false≢true (sym (ap is_some is)))
turns v h seen (End count) e is holds = absurd (false≢true (sym (ap is_some is)))
turns v h seen (Copy count end words) e is holds = absurd (false≢true (sym (ap is_some is)))
turns v h seen (Take copy) e is holds = by (turn_in seen) refl
  where
    by : (b : Bool) → turn_in seen ≡ b → HoldsWorker v (after_step (host h (Take copy)) seen).worker
    by true t = rw (e, t) (shown v h.worker (Take copy) (Answer copy) refl holds)
    by false t = rw (e, t) holds
turns v h seen (Answer copy) e is holds = rw (e) holds
turns v h seen (Give copy reply) e is holds = rw (e) (shown v h.worker (Give copy reply) (Reply copy reply 0) refl holds)
turns v h seen (Reply copy reply i) e is holds = absurd (false≢true (sym (ap is_some is)))
turns v h seen (Ack copy reply) e is holds = absurd (false≢true (sym (ap is_some is)))

pub turns_unseen : TurnsAreUnseen
turns_unseen v h seen shows is = turns v h seen h.worker.stage shows.serves is shows.worker

decided : (v : WorkerView) (h : HostAt) (policy : Policy) (copy : Option Copied) → HoldsWorker v h.worker → HoldsWorker v (decided_by h policy copy).worker
decided v h policy None holds = holds
decided v h policy (Some copy) holds = holds

pub decisions_unseen : DecisionsAreUnseen
decisions_unseen v h policy shows = decided v h policy (copy_to_answer h) shows.worker

-- an answer to a copy that is there
answered : (v : WorkerView) (h : HostAt) (answer : HostAnswer) (s : WorkerStage) (decision : Option Decision) → HoldsWorker v (at h.worker s)
    → HoldsWorker v (after_answer_to (host h s) answer (copy_at s) decision).worker
answered v h answer Look decision holds = holds
answered v h answer Count decision holds = holds
answered v h answer (End count) decision holds = holds
answered v h answer (Copy count end words) decision holds = holds
answered v h answer (Take copy) decision holds = holds
answered v h answer (Answer copy) None holds = holds
answered v h answer (Answer copy) (Some d) holds = record { channels = holds.channels; channel = holds.channel; place = holds.place }
answered v h answer (Give copy reply) decision holds = holds
answered v h answer (Reply copy reply i) decision holds = holds
answered v h answer (Ack copy reply) decision holds = holds

pub answers_unseen : AnswersAreUnseen
answers_unseen v h answer shows =
    subst (λ (o : Option Copied). HoldsWorker v (after_answer_to h answer o h.decision).worker) (sym (served h shows.serves))
    (answered v h answer h.worker.stage h.decision shows.worker)
  where
    served : (h : HostAt) → is_taking_over h ≡ false → copy_to_answer h ≡ copy_at h.worker.stage
    served h e = rw (e) refl
