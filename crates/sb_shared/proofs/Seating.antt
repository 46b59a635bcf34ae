-- What the steps of the core, of which the table tells, say of the seats of workers and threads.
use Rattle.std.proofs.Common.{◌≡◌, ◌∙◌, ap, subst, sym, ℕ, Bool, true, false, List, [], ◌∷◌, map, Option}
use Rattle.atomic_table.specs.Seated.{TableId}
use Rattle.sb_actor.specs.Observations.{Observation}
use Rattle.sb_actor.specs.Observations as seen
use Rattle.sb_actor.specs.ThreadTable.{thread_plan}
use Rattle.sb_actor.specs.WorkerStages.{WorkerAt}
use Rattle.sb_actor.specs.WorkerTable.{worker_plan}
use Rattle.sb_actor.specs.declared.acts.Act.TheVariants as act
use Rattle.sb_book.specs.Histories.{History}
use Rattle.sb_core.specs.Shared.{on_worker}
use Rattle.sb_shared.specs.Events.{world_in}
use Rattle.sb_shared.specs.Parts.{first_part, is_on_word, part_after, plan_in, seen_of, word_view}
use Rattle.sb_shared.specs.Plays.{IsMade, IsShown}
use Rattle.sb_shared.specs.Seats.{IsThread, IsThreadStep, IsTry, IsWordStep, IsWorker, IsWorkerStep, ThreadIn, WorkerIn, thread_in, thread_part, thread_seat, worker_in, worker_part, worker_seat}
use Rattle.sb_shared.specs.Steps.{IsStep, shown_in}
use Rattle.sb_shared.specs.declared.views.Part.{Part}
use Rattle.sb_shared.specs.declared.views.Part.TheVariants as part
use Rattle.sb_shared.specs.declared.views.View.{View}
use Rattle.sb_shared.proofs.Standing.{shown_on_word}

-- the one worker or thread of some parts
pub first_worker : (ps : List Part) (t : ℕ) (x : WorkerAt) (b : Option History) → ps ≡ part.Worker t x b ∷ [] → first_part ps ≡ worker_part (worker_in ps)
first_worker ps t x b e = ap first_part e ∙ ap (λ (l : List Part). worker_part (worker_in l)) (sym e)

pub first_thread : (ps : List Part) (x : ThreadIn) → ps ≡ thread_part x ∷ [] → first_part ps ≡ thread_part (thread_in ps)
first_thread ps x e = ap first_part e ∙ ap (λ (l : List Part). thread_part (thread_in l)) (sym e)

-- what a try for the turn saw
abbrev turn_in : Observation → Bool
turn_in (seen.Turn b) = b
turn_in _ = false

module _ (table other_table : TableId) (v u : View) (one_bit other_bit : Bool) (is : IsWorker v) where
  abbrev x : WorkerIn
  x = worker_in v.parts

  abbrev here : first_part v.parts ≡ worker_part x
  here = ap first_part is.one

  -- a worker's step
  abbrev pub worker_made : first_part u.parts ≡ worker_part (worker_in u.parts) → IsMade v u → IsWorkerStep (worker_seat table v one_bit) (worker_seat other_table u other_bit)
  worker_made there m = record {
    before = m.before;
    core = subst (λ (z : Part × Part). IsStep v.key z.0 z.1 v.history m.before u.history) (λ i. (here i, there i)) m.core;
  }

  shown_here : (m : IsMade v u) (q : Observation) → q ≡ shown_in v.key.script.value (world_in v.key m.before) (first_part v.parts)
      → q ≡ (on_worker (world_in v.key m.before).shared x.target x.state (worker_plan x.state)).seen
  shown_here m q e = e ∙ ap (shown_in v.key.script.value (world_in v.key m.before)) here

  pub tried_to : first_part u.parts ≡ worker_part (worker_in u.parts) → (q : Bool) → worker_plan x.state ≡ act.Take → IsShown v u (seen.Turn q)
      → IsTry (worker_seat table v one_bit) (worker_seat other_table u other_bit) q
  tried_to there q plan m = record {
    core = worker_made there m.0;
    is =
        let w = world_in v.key m.0.before in
        ap turn_in (shown_here m.0 (seen.Turn q) m.1 ∙ (λ i. (on_worker w.shared x.target x.state (plan i)).seen));
  }

  -- a step on a word
  pub word_made : (n : ℕ) → u ≡ word_view v n u.history → is_on_word (worker_plan x.state) ≡ true
      → IsShown v u (seen_of (plan_in v.key.script.value (first_part v.parts)) n) → IsWordStep (worker_seat table v one_bit) (worker_seat other_table u other_bit)
  word_made n moved on m =
      let script = v.key.script.value in
      let after : u.parts ≡ part_after script (worker_part x) n ∷ [] = ap (λ (z : View). z.parts) moved ∙ ap (map (λ p. part_after script p n)) is.one in
      let there = ap first_part after ∙ ap (λ (l : List Part). worker_part (worker_in l)) (sym after) in
      record {
        core = worker_made there m.0;
        found =
            let w = world_in v.key m.0.before in
            ap (seen_of (worker_plan x.state)) (ap (λ (z : View). z.found) moved)
            ∙ (λ i. seen_of (plan_in script (sym here i)) n)
            ∙ m.1 ∙ ap (shown_in script w) here ∙ shown_on_word script w (worker_part x) on;
      }

module _ (table other_table : TableId) (v u : View) (one_bit other_bit : Bool) (is : IsThread v) where
  abbrev y : ThreadIn
  y = thread_in v.parts

  abbrev this : first_part v.parts ≡ thread_part y
  this = ap first_part is.one

  -- a thread's step
  pub thread_made : (n : ℕ) → u ≡ word_view v n u.history → IsShown v u (seen_of (plan_in v.key.script.value (first_part v.parts)) n)
      → IsThreadStep (thread_seat table v one_bit) (thread_seat other_table u other_bit)
  thread_made n moved m =
      let script = v.key.script.value in
      let after : u.parts ≡ part_after script (thread_part y) n ∷ [] = ap (λ (z : View). z.parts) moved ∙ ap (map (λ p. part_after script p n)) is.one in
      let there = ap first_part after ∙ ap (λ (l : List Part). thread_part (thread_in l)) (sym after) in
      record {
        before = m.0.before;
        core = subst (λ (z : Part × Part). IsStep v.key z.0 z.1 v.history m.0.before u.history) (λ i. (this i, there i)) m.0.core;
        found =
            let w = world_in v.key m.0.before in
            ap (seen_of (thread_plan script y.run.thread)) (ap (λ (z : View). z.found) moved)
            ∙ (λ i. seen_of (plan_in script (sym this i)) n)
            ∙ m.1 ∙ ap (shown_in script w) this;
      }
