-- The lines of a trace: which steps each tells of. Consecutive words of one phase of an actor are one line if only waiting steps come between them, and an actor's
-- waiting steps since its last line are one line before its next.
use Rattle.std.specs.Prelude.{ℕ, ◌+◌, Bool, true, false, ◌&&◌, ◌==◌, List, [], ◌∷◌, ◌++◌, map, Option, None, Some, IsPermutation, if◌then◌else◌}
use Rattle.std.specs.List.{filter, flat_map}
use Rattle.sb_trace.specs.Phases.{Phase, WordPhase, Waits, Word, Fill, Copy, Reply, Fetch, phase_of}
use Rattle.sb_trace.specs.Steps.{StepAt}
use Rattle.sb_core.specs.Worlds.{step}
use Rattle.sb_statements.specs.declared.schedules.Actor.{Actor}
use Rattle.sb_statements.specs.declared.schedules.Actor.TheVariants as actor
use Rattle.sb_statements.specs.declared.scripts.Script.{Script}

-- a step with its phase
pub record Told : Type 0 where
  pub number : ℕ
  pub actor : Actor
  pub phase : Phase

-- the steps of a run with their phases
abbrev pub told : Script → StepAt → Told
told script s = record { number = s.number; actor = s.actor; phase = phase_of script s.before s.actor (step script s.before s.actor) }

-- a line: the numbers of its steps in order, who made them, its first phase, and its last if it has several steps that do not wait
pub record TraceLine : Type 0 where
  pub numbers : List ℕ
  pub actor : Actor
  pub phase : Phase
  pub last : Phase

-- two actors are the same
abbrev pub same_actor : Actor → Actor → Bool
same_actor (actor.Worker t) (actor.Worker u) = t == u
same_actor (actor.Thread t k) (actor.Thread u j) = t == u && k == j
same_actor _ _ = false

-- two phases of words are the same
abbrev pub same_words : WordPhase → WordPhase → Bool
same_words Fill Fill = true
same_words Copy Copy = true
same_words Reply Reply = true
same_words Fetch Fetch = true
same_words _ _ = false

-- the second is the next word of the same channel in the same phase
abbrev pub is_next_word : Phase → Phase → Bool
is_next_word (Word words c i ending) (Word more d j last) = same_words words more && c == d && j == i + 1
is_next_word _ _ = false

-- the line of one step
abbrev pub line_of : Told → TraceLine
line_of t = record { numbers = t.number ∷ []; actor = t.actor; phase = t.phase; last = t.phase }

-- a line with one more step
abbrev pub extended : TraceLine → Told → TraceLine
extended line t = record line { numbers = line.numbers ++ t.number ∷ []; last = t.phase }

-- what is folded so far: the lines that are whole, the line that may go on, and for each actor that has waited since its last line these steps
pub record Folded : Type 0 where
  pub lines : List TraceLine
  pub going : Option TraceLine
  pub waiting : List TraceLine

abbrev pub nothing_folded : Folded
nothing_folded = record { lines = []; going = None; waiting = [] }

-- one more waiting step of an actor
abbrev pub waited : List TraceLine → Told → List TraceLine
waited [] t = line_of t ∷ []
waited (line ∷ lines) t = if same_actor line.actor t.actor then extended line t ∷ lines else line ∷ waited lines t

-- the waiting steps of this actor, and those of all others
abbrev pub of_actor : Actor → List TraceLine → List TraceLine
of_actor actor lines = filter (λ line. same_actor line.actor actor) lines

abbrev pub of_others : Actor → List TraceLine → List TraceLine
of_others actor [] = []
of_others actor (line ∷ lines) = if same_actor line.actor actor then of_others actor lines else line ∷ of_others actor lines

-- the line that may go on, if there is one
abbrev pub open_lines : Option TraceLine → List TraceLine
open_lines None = []
open_lines (Some line) = line ∷ []

-- a line that may go on begins: the one before it is whole, and the actor's waiting steps come before it
abbrev pub started : Folded → Told → Folded
started f t = record {
  lines = f.lines ++ (open_lines f.going ++ of_actor t.actor f.waiting);
  going = Some (line_of t);
  waiting = of_others t.actor f.waiting;
}

-- a step that does not wait goes on with the open line, if it is that actor's next word
abbrev pub continued : Folded → Told → Option TraceLine → Folded
continued f t None = started f t
continued f t (Some line) =
    if same_actor line.actor t.actor && is_next_word line.last t.phase then record f { going = Some (extended line t) } else started f t

-- one more step
abbrev pub folded_by : Folded → Told → Phase → Folded
folded_by f t Waits = record f { waiting = waited f.waiting t }
folded_by f t phase = continued f t f.going

abbrev pub folded : Folded → List Told → Folded
folded f [] = f
folded f (t ∷ more) = folded (folded_by f t t.phase) more

-- all lines: the last one is whole at the end, and the waiting steps that are left come after it
abbrev pub all_lines : Folded → List TraceLine
all_lines f = f.lines ++ (open_lines f.going ++ f.waiting)

-- the lines of steps
abbrev pub trace_lines : List Told → List TraceLine
trace_lines steps = all_lines (folded nothing_folded steps)

-- the steps of a line, each with who made it
abbrev pub steps_in : TraceLine → List (ℕ × Actor)
steps_in line = map (λ n. (n, line.actor)) line.numbers

-- a step with who made it
abbrev pub maker : Told → ℕ × Actor
maker t = (t.number, t.actor)

-- the steps of the lines are the steps, in another order: none is left out, none is told twice, and each has its own actor and number
abbrev pub LinesHoldSteps : Type 0
LinesHoldSteps = (steps : List Told) → IsPermutation (map maker steps) (flat_map steps_in (trace_lines steps))
