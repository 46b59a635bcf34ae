-- What the memory of a worker's seat holds after each step.
use Rattle.std.proofs.Common.{◌≡◌, ◌≢◌, ◌∙◌, refl, ap, subst, sym, ℕ, Bool, true, false, eqb, eq-eqb, ne_eqb, List, [], ◌∷◌, map, Option, None, Some, is_some}
use Rattle.atomic_table.specs.Table.{Step, rest}
use Rattle.sb_actor.specs.WorkerStages.{WorkerAt, WorkerStage, Take, Answer, Give}
use Rattle.sb_actor.specs.WorkerTable.{after_take, worker_plan, worker_row, worker_after, taken_in}
use Rattle.sb_actor.specs.declared.acts.Act.{Act}
use Rattle.sb_actor.specs.declared.acts.Act.TheVariants as act
use Rattle.sb_actor.specs.Observations as seen
use Rattle.sb_block.specs.Copies.{Copied}
use Rattle.sb_book.specs.Histories.{History}
use Rattle.sb_book.specs.declared.decisions.Decision.{Decision}
use Rattle.sb_core.specs.Kept.{has_turn}
use Rattle.sb_rule.specs.declared.policies.Policy.{Policy}
use Rattle.sb_shared.specs.Keeping.{IsBody, IsDecided}
use Rattle.sb_shared.specs.Origins.{setting_in}
use Rattle.sb_shared.specs.Parts.{shown_part, taken_view}
use Rattle.sb_shared.specs.Plays.{Placed, Stand, Tried}
use Rattle.sb_shared.specs.Rule.{Slot}
use Rattle.sb_shared.specs.Seats.{Lies, WorkerIn, worker_in, worker_part}
use Rattle.sb_shared.specs.Standing.{AllStand, IsWorkerHere}
use Rattle.sb_shared.specs.declared.views.Part.TheVariants as part
use Rattle.sb_shared.specs.declared.views.View.{View}
use Rattle.sb_shared.proofs.Finishing.{worker_here}
use Rattle.sb_shared.proofs.Lying.{tried_got, tried_missed}

-- what the plan of a worker says of its stage
abbrev pub Facts : Act → WorkerStage → Type 0
Facts act.Take stage = (taken : Copied) × (stage ≡ Take taken)
Facts act.Answer stage = (taken : Copied) × (stage ≡ Answer taken)
Facts act.Give stage = has_turn stage ≡ true
Facts _ stage = Unit {0}

facts_at : (x : WorkerAt) (stage : WorkerStage) → Facts (worker_row x stage).step stage
facts_at x (Take taken) = (taken, refl)
facts_at x (Answer taken) = (taken, refl)
facts_at x (Give taken reply) = refl
facts_at x _ = tt

pub facts : (x : WorkerAt) (a : Act) → worker_plan x ≡ a → Facts a x.stage
facts x a plan = subst (λ z. Facts z x.stage) plan (facts_at x x.stage)

-- a try for the turn keeps the copy
take_decided : (policies : List Policy) (d : Option Decision) (x : WorkerAt) (b : Bool) → worker_plan x ≡ act.Take
    → IsDecided policies x.target (taken_in x.stage) d
    → IsDecided policies (worker_after x (seen.Turn b)).target (taken_in (worker_after x (seen.Turn b)).stage) d
take_decided policies d x b plan h = subst After (sym stage.1) (either_way b)
  where
    stage : (taken : Copied) × (x.stage ≡ Take taken)
    stage = facts x act.Take plan

    After : WorkerStage → Type 0
    After z = IsDecided policies ((worker_row x z).next (seen.Turn b)).target (taken_in ((worker_row x z).next (seen.Turn b)).stage) d

    same : IsDecided policies x.target (Some stage.0) d
    same = subst (λ z. IsDecided policies x.target (taken_in z) d) stage.1 h

    either_way : (q : Bool) → IsDecided policies x.target (taken_in (after_take stage.0 q)) d
    either_way true = same
    either_way false = same

has_none : (o : Option History) → is_some o ≡ false → o ≡ None
has_none None e = refl
has_none (Some b) e = absurd cc

has_some : (o : Option History) → is_some o ≡ true → (b : History) × (o ≡ Some b)
has_some None e = absurd cc
has_some (Some b) e = (b, refl)

-- a body, by where its worker is
pub body_of : (me : Placed) (t : ℕ) (x : WorkerAt) (b : Option History) (state : WorkerAt) (book : Option History) (d : Option Decision)
    → me.0.parts ≡ part.Worker t x b ∷ [] → Stand me → state ≡ x → book ≡ b → Lies book me.1
    → IsDecided (setting_in me.0.key).policies state.target (taken_in state.stage) d → IsBody me state book d
body_of me t x b state book d one stands same_state same_book lies decided =
    let here : worker_in me.0.parts ≡ record { target = t; state = x; book = b } = ap worker_in one in
    record {
      worker = record { one = one ∙ ap (λ z. worker_part z ∷ []) (sym here); stands = stands };
      state_is = same_state ∙ ap (λ (z : WorkerIn). z.state) (sym here);
      book_is = same_book ∙ ap (λ (z : WorkerIn). z.book) (sym here);
      lies = lies;
      decided = decided;
    }

module _ (me : Placed) (state : WorkerAt) (book : Option History) (d : Option Decision) (body : IsBody me state book d) where
  abbrev x : WorkerIn
  x = worker_in me.0.parts

  pub here : IsWorkerHere me.0.key x.target x.state x.book
  here = worker_here me.0 body.worker

  abbrev policies : List Policy
  policies = (setting_in me.0.key).policies

  pub same_plan : worker_plan x.state ≡ worker_plan state
  same_plan = ap worker_plan (sym body.state_is)

  -- at a try for the turn the worker does not have it
  pub without_book : worker_plan state ≡ act.Take → x.book ≡ None
  without_book plan = has_none x.book (sym here.turn ∙ ap has_turn (facts x.state act.Take (same_plan ∙ plan)).1)

  pub no_book : worker_plan state ≡ act.Take → book ≡ None
  no_book plan = body.book_is ∙ without_book plan

  pub nothing_out : worker_plan state ≡ act.Take → me.1 ≡ []
  nothing_out plan = subst (λ z. Lies z me.1) (no_book plan) body.lies

  -- at Answer it has the turn
  pub book_at_mark : worker_plan state ≡ act.Answer → (b : History) × (x.book ≡ Some b)
  book_at_mark plan = has_some x.book (sym here.turn ∙ ap has_turn (facts x.state act.Answer (same_plan ∙ plan)).1)

  -- and at Give
  pub book_at_give : worker_plan state ≡ act.Give → (b : History) × (x.book ≡ Some b)
  book_at_give plan = has_some x.book (sym here.turn ∙ facts x.state act.Give (same_plan ∙ plan))

  -- the turn was held
  pub body_missed : (s : Step Slot) (n : ℕ) (after : Placed) (next : WorkerAt) → worker_plan state ≡ act.Take → n ≢ 0 → Tried s me n after
      → next ≡ worker_after state (seen.Turn (eqb n 0)) → IsBody after next book d
  body_missed s n after next plan some tried same =
      let missed = tried_missed s me n after some tried in
      let parts : after.0.parts ≡ part.Worker x.target (worker_after x.state (seen.Turn false)) None ∷ [] =
      ap (λ (z : Placed). z.0.parts) missed ∙ ap (map (shown_part (seen.Turn false) None)) body.worker.one in
      let key : me.0.key ≡ after.0.key = ap (λ (z : Placed). z.0.key) (sym missed) in
      let next_is : next ≡ worker_after state (seen.Turn false) = same ∙ ap (λ b. worker_after state (seen.Turn b)) (ne_eqb n 0 some) in
      body_of after x.target (worker_after x.state (seen.Turn false)) None next book d parts tried.1
      (next_is ∙ ap (λ (z : WorkerAt). worker_after z (seen.Turn false)) body.state_is) (no_book plan)
      (subst (Lies book) (ap (λ (z : Placed). z.1) (sym missed)) body.lies)
      (subst (λ (z : List Policy × WorkerAt). IsDecided z.0 z.1.target (taken_in z.1.stage) d) (λ i. ((setting_in (key i)).policies, sym next_is i))
      (take_decided policies d state false plan body.decided))

  -- the turn was taken, and then the book
  pub body_taken : (s : Step Slot) (n : ℕ) (after last : Placed) (next : WorkerAt) (got : Slot) → worker_plan state ≡ act.Take → n ≡ 0 → Tried s me n after
      → next ≡ worker_after state (seen.Turn (eqb n 0)) → after.1 ≡ (0, got) ∷ rest after.1 → last ≡ (after.0, (0, None) ∷ rest after.1) → IsBody last next got d
  body_taken s n after last next got plan zero tried same out exchanged =
      let taken = tried_got s me n after (nothing_out plan) zero tried in
      let b : History = taken.0 in
      let outside : after.1 ≡ (0, Some b) ∷ [] = ap (λ (z : Placed). z.1) taken.1 in
      let got_is : got ≡ Some b = ap first_slot (sym out ∙ outside) in
      let view : last.0 ≡ taken_view me.0 b after.0.history = ap (λ (z : Placed). z.0) exchanged ∙ ap (λ (z : Placed). z.0) taken.1 in
      let slots : last.1 ≡ (0, None) ∷ [] = ap (λ (z : Placed). z.1) exchanged ∙ ap (λ (l : List (ℕ × Slot)). (0, None) ∷ rest l) outside in
      let parts : last.0.parts ≡ part.Worker x.target (worker_after x.state (seen.Turn true)) (Some b) ∷ [] =
      ap (λ (z : View). z.parts) view ∙ ap (map (shown_part (seen.Turn true) (Some b))) body.worker.one in
      let key : me.0.key ≡ last.0.key = ap (λ (z : View). z.key) (sym view) in
      let next_is : next ≡ worker_after state (seen.Turn true) = same ∙ ap (λ q. worker_after state (seen.Turn q)) (eq-eqb n 0 zero) in
      let stands : AllStand last.0.key last.0.parts = subst (λ (z : View). AllStand z.key z.parts) (ap (λ (z : Placed). z.0) (sym exchanged)) tried.1 in
      body_of last x.target (worker_after x.state (seen.Turn true)) (Some b) next got d parts stands
      (next_is ∙ ap (λ (z : WorkerAt). worker_after z (seen.Turn true)) body.state_is) got_is
      (subst (λ z. Lies z last.1) (sym got_is) slots)
      (subst (λ (z : List Policy × WorkerAt). IsDecided z.0 z.1.target (taken_in z.1.stage) d) (λ i. ((setting_in (key i)).policies, sym next_is i))
      (take_decided policies d state true plan body.decided))
    where
      first_slot : List (ℕ × Slot) → Slot
      first_slot [] = None
      first_slot (z ∷ zs) = z.1
