-- Steps on the turn, by what a worker's seat is.
use Rattle.std.proofs.Common.{◌≡◌, ◌+◌, ℕ, Some, None, Option, List, [], ◌∷◌, sym, ap, ◌∙◌, subst, eq-eqb, eqb, ne_eqb, ◌≢◌}
use Rattle.std.proofs.lemmas.Bool.Decides.{when_false, when_true}
use mathlib.Core.Option as raw
use prog.Atomic.{either}
use Rattle.atomic_table.specs.Table.{Step, step, Allows}
use Rattle.sb_actor.specs.WorkerTable.{worker_plan}
use Rattle.sb_actor.specs.declared.acts.Act.TheVariants as act
use Rattle.sb_book.specs.Histories.{History}
use Rattle.sb_shared.specs.Laws.{Laws}
use Rattle.sb_shared.specs.Parts.{missed_view, taken_view}
use Rattle.sb_shared.specs.Plays.{Gave, HasAnswered, Placed, Tried}
use Rattle.sb_shared.specs.Rule.{Holds, Slot, turn_word}
use Rattle.sb_shared.specs.Seats.{IsWorker, Lies, WorkerIn, worker_in, worker_part}
use Rattle.sb_shared.specs.declared.views.Origin.{Origin}
use Rattle.sb_shared.specs.declared.views.Part.TheVariants as part
use Rattle.sb_shared.proofs.Turning.{try_allowed, answer_allowed, give_allowed}

pub lies_holding : (b : Option History) (book : History) (slots : List (ℕ × Slot)) → b ≡ Some book → Lies b slots → slots ≡ (0, None) ∷ []
lies_holding b book slots e l = subst (λ z. Lies z slots) e l

module _ (laws : Laws) (key : Origin) (slots id : ℕ) (me : Placed) (is : IsWorker me.0) where
  abbrev one : me.0.parts ≡ worker_part (worker_in me.0.parts) ∷ []
  one = is.one

  abbrev here : WorkerIn
  here = worker_in me.0.parts

  pub try_allowed_at : (name : ℕ) → worker_plan here.state ≡ act.Take → here.book ≡ None → name ≡ here.target + 1
      → Allows (Holds key) slots id me turn_word (λ n. either (eqb n 0) name n) (Tried (step slots turn_word 0 name raw.none) me)
  try_allowed_at name plan without named =
      subst (λ (m : ℕ). Allows (Holds key) slots id me turn_word (λ n. either (eqb n 0) m n) (Tried (step slots turn_word 0 m raw.none) me)) (sym named)
      (try_allowed laws key slots id me.0 me.1 here.target here.state here.book one plan without)

  holding : (book : History) → here.book ≡ Some book → me.0.parts ≡ part.Worker here.target here.state (Some book) ∷ []
  holding book e = one ∙ ap (λ (b : Option History). part.Worker here.target here.state b ∷ []) e

  pub answer_allowed_at : (book : History) → worker_plan here.state ≡ act.Answer → here.book ≡ Some book
      → Allows (Holds key) slots id me turn_word (λ n. n) (HasAnswered (step slots turn_word 0 0 raw.none) me)
  answer_allowed_at book plan has = answer_allowed laws key slots id me.0 me.1 here.target here.state book (holding book has) plan

  pub give_allowed_at : (book : History) → worker_plan here.state ≡ act.Give → here.book ≡ Some book → me.1 ≡ (0, Some book) ∷ []
      → Allows (Holds key) slots id me turn_word (λ _. 0) (λ _. Gave (step slots turn_word 0 0 raw.none) me 0)
  give_allowed_at book plan has back = give_allowed laws key slots id me.0 me.1 here.target here.state book (holding book has) plan back

-- a try that found 0 got a book
pub tried_got : (s : Step Slot) (me : Placed) (n : ℕ) (after : Placed) → me.1 ≡ [] → n ≡ 0 → Tried s me n after
    → (book : History) × (after ≡ (taken_view me.0 book after.0.history, (0, Some book) ∷ []))
tried_got s me n after empty zero_found t =
    let g = when_true _ _ (eq-eqb n 0 zero_found) t.0 in
    (g.0, g.1 ∙ ap (λ (l : List (ℕ × Slot)). (taken_view me.0 g.0 after.0.history, (0, Some g.0) ∷ l)) empty)

-- another did not
pub tried_missed : (s : Step Slot) (me : Placed) (n : ℕ) (after : Placed) → n ≢ 0 → Tried s me n after → after ≡ (missed_view me.0 n after.0.history, me.1)
tried_missed s me n after some_found t = when_false _ _ (ne_eqb n 0 some_found) t.0
