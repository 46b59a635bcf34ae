-- What each step on a word of the table tells its seat, and what a seat may do.
use Rattle.std.specs.Prelude.{◌≡◌, ◌<◌, ◌≤◌, ℕ, ◌==◌, ◌++◌, List, [], ◌∷◌, Some, MatchBool}
use mathlib.Core.Option as raw
use prog.Atomic.{either}
use Rattle.atomic_table.specs.Table.{Step, Me, step, Allows}
use Rattle.sb_actor.specs.declared.acts.Act.{Act}
use Rattle.sb_actor.specs.declared.acts.Act.TheVariants as act
use Rattle.sb_actor.specs.Observations.{Observation}
use Rattle.sb_actor.specs.Observations as seen
use Rattle.sb_book.specs.Histories.{History}
use Rattle.sb_statements.specs.declared.statements.Word.{Word}
use Rattle.sb_shared.specs.Events.{stop_in, world_in}
use Rattle.sb_shared.specs.Parts.{first_part, given_view, answered_view, missed_view, plan_in, seen_of, taken_view, told_view, word_view}
use Rattle.sb_shared.specs.Rule.{Slot, Holds, spot}
use Rattle.sb_shared.specs.Standing.{AllStand}
use Rattle.sb_shared.specs.Steps.{IsSince, IsStep, shown_in}
use Rattle.sb_shared.specs.declared.stops.Stop.TheVariants.{Finished, OutOfMemory}
use Rattle.sb_shared.specs.declared.views.Event.{Event}
use Rattle.sb_shared.specs.declared.views.Event.TheVariants as event
use Rattle.sb_shared.specs.declared.views.Origin.{Origin}
use Rattle.sb_shared.specs.declared.views.View.{View}

-- a seat's view, and the place of the book if the seat has it
abbrev pub Placed : Type 0
Placed = Me Slot View

-- what holds of the actors of a seat wherever they are
abbrev pub Stand : Placed → Type 0
Stand me = AllStand me.0.key me.0.parts

-- the actor of a seat made one step of the core, which left the seat with the second view
pub record IsMade (v u : View) : Type 0 where
  pub before : List Event
  pub core : IsStep v.key (first_part v.parts) (first_part u.parts) v.history before u.history

-- and saw what the core's step shows it
abbrev pub IsShown : View → View → Observation → Type 0
IsShown v u seen = (m : IsMade v u) × (seen ≡ shown_in v.key.script.value (world_in v.key m.before) (first_part v.parts))

-- the actor made its step on a word, and found n there
abbrev pub Stepped : Step Slot → Placed → ℕ → Placed → Type 0
Stepped s me n after =
    (after ≡ (word_view me.0 n after.0.history, me.1)) × Stand after × IsShown me.0 after.0 (seen_of (plan_in me.0.key.script.value (first_part me.0.parts)) n)

-- the turn was taken, and the book with its place
abbrev pub Took : Placed → Placed → Type 0
Took me after = (book : History) × (after ≡ (taken_view me.0 book after.0.history, (0, Some book) ∷ me.1))

-- a try that found 0 took the turn, and another did not
abbrev pub Tried : Step Slot → Placed → ℕ → Placed → Type 0
Tried s me n after =
    MatchBool (n == 0) (Took me after) (after ≡ (missed_view me.0 n after.0.history, me.1)) × Stand after × IsShown me.0 after.0 (seen.Turn (n == 0))

-- the book answered
abbrev pub HasAnswered : Step Slot → Placed → ℕ → Placed → Type 0
HasAnswered s me n after = (after ≡ (answered_view me.0 n after.0.history, me.1)) × Stand after × IsMade me.0 after.0

-- the turn was given back, and the book lies in its place
abbrev pub Gave : Step Slot → Placed → ℕ → Placed → Type 0
Gave s me n after = (after ≡ (given_view me.0 after.0.history, [])) × Stand after × IsMade me.0 after.0

-- the seat saw the stops that were set before
abbrev pub Looked : Step Slot → Placed → ℕ → Placed → Type 0
Looked s me n after =
    (n ≤ 2) × (before : List Event) × IsSince me.0.parts me.0.history before × (n ≡ stop_in before) × (after ≡ (told_view me.0 (before ++ event.Look ∷ []), me.1))

-- the seat set a stop
abbrev pub Told : Event → Placed → Placed → Type 0
Told e me after = (before : List Event) × IsSince me.0.parts me.0.history before × (after ≡ (told_view me.0 (before ++ e ∷ []), me.1))

abbrev pub Ended : Step Slot → Placed → ℕ → Placed → Type 0
Ended s me n after = Told (event.Stop Finished) me after

abbrev pub Failed : Step Slot → Placed → ℕ → Placed → Type 0
Failed s me n after = Told (event.Stop OutOfMemory) me after

-- k is the place of a word among those of the table, if the word is one of a channel that can be
abbrev pub IsSpot : ℕ → Word → ℕ → Type 0
IsSpot t word k = t < 8 → word.channel < 8 → word.at < 65 → k ≡ spot t word.channel word.at

-- a step on a word keeps the rule and moves the seat's actor, wherever the word lies
abbrev pub MayStep : Origin → ℕ → ℕ → Placed → Act → Type 0
MayStep key slots id me (act.Load t word) =
    (k : ℕ) → IsSpot t word k → Allows (Holds key) slots id me k (λ n. n) (Stepped (step slots k 0 0 raw.none) me)
MayStep key slots id me (act.Store t word x) =
    (k : ℕ) → IsSpot t word k → Allows (Holds key) slots id me k (λ _. x) (λ _. Stepped (step slots k x 0 raw.none) me x)
MayStep key slots id me (act.Exchange t word from to) =
    (k : ℕ) → IsSpot t word k → Allows (Holds key) slots id me k (λ n. either (n == from) to n) (Stepped (step slots k from to raw.none) me)
MayStep key slots id me _ = Unit {0}
