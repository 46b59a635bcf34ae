-- What was read of a schedule, and what a line adds to it.
use Rattle.std.specs.Prelude.{ℕ, ◌+◌, Bool, true, false, nat_le, List, [], ◌∷◌, ◌++◌, Option, None, Some, Result, Ok, Err, if◌then◌else◌}
use Rattle.std.specs.List.{sum_by}
use Rattle.sb_scripttext.specs.ScheduleLimits.{most_steps}
use Rattle.sb_scripttext.specs.declared.schedule_faults.ScheduleKind.{ScheduleKind}
use Rattle.sb_scripttext.specs.declared.schedule_faults.ScheduleKind.TheVariants.{TooMany, NoRounds}
use Rattle.sb_statements.specs.declared.schedules.Actor.{Actor}
use Rattle.sb_statements.specs.declared.schedules.Schedule.{Schedule}
use Rattle.sb_text.specs.Readings.{without_column}
use Rattle.sb_text.specs.declared.refusals.LineFault.{LineFault}

-- the steps so far, and the rounds if a line told them
pub record Drafted : Type 0 where
  pub steps : List (Actor × ℕ)
  pub rounds : Option ℕ

-- how many steps there are in all
abbrev pub step_count : List (Actor × ℕ) → ℕ
step_count steps = sum_by (λ step. step.1) steps

-- nothing was read
abbrev pub nothing : Drafted
nothing = record { steps = []; rounds = None }

-- a line told the rounds
abbrev pub has_rounds : Drafted → Bool
has_rounds draft = elim draft.rounds [ None ↦ false | Some n ↦ true ]

-- an actor makes steps, if there are not too many
abbrev pub with_step : Drafted → Actor × ℕ → Result Drafted ScheduleKind
with_step draft step =
    if nat_le (step_count draft.steps + step.1) most_steps then Ok (record draft { steps = draft.steps ++ step ∷ [] })
    else Err TooMany

-- the schedule that was read of a text of this many lines; if no line told the rounds, they are missing on the last
abbrev pub finished : ℕ → Drafted → Result Schedule (LineFault ScheduleKind)
finished lines draft = elim draft.rounds [
  | None ↦ Err (without_column lines NoRounds)
  | Some rounds ↦ Ok (record { steps = draft.steps; rounds = rounds })
]

-- with these rounds
abbrev pub with_rounds : Drafted → ℕ → Drafted
with_rounds draft rounds = record draft { rounds = Some rounds }
