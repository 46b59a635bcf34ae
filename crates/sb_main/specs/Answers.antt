-- What the program does for its arguments, over any files and any output.
use Rattle.std.specs.Prelude.{◌≡◌, ◌⊎◌, ◌++◌, ℕ, List, [], Option, Result}
use Rattle.sb_commands.specs.Commands.{Command}
use Rattle.sb_commands.specs.Usage.{Fault}
use Rattle.sb_outside.specs.Outside.{GrowsBy, GrowsByPrefix}
use Rattle.sb_outside.specs.declared.sink.SinkFault.{SinkFault}
use Rattle.sb_plain.specs.Effects.{Effect, IsOrderly}
use Rattle.sb_top.specs.Top.{EndsAsMeant, files_for}
use Rattle.sb_plain.specs.declared.outcomes.Outcome.{Outcome}
use Rattle.sb_message.specs.declared.statuses.Refusal.TheVariants.{NoMemory}
use Rattle.sb_message.specs.declared.statuses.Status.{Status}
use Rattle.sb_message.specs.declared.statuses.Status.TheVariants.{Done, Refused, WriteFault}

-- the outcome and the effect are those with which a top call may end
pub record IsAnswer {G S : Type 0} (wanted : Result Command Fault) (e : Effect G S) (o : Outcome) : Type 0 where
  pub orderly : IsOrderly (files_for wanted) e o
  pub ends : EndsAsMeant wanted e o

-- the output grew by what was pending and then this text, and nothing is pending; or it failed, and grew by a prefix of that; or there was no memory for the text
abbrev pub IsTold : List ℕ → Option (List ℕ) → List ℕ → Option (List ℕ) → List ℕ → Type 0 → Status → Type 0
IsTold text before pending after pending' rose s =
    ((s ≡ Done) × GrowsBy before (pending ++ text) after × (pending' ≡ []))
    ⊎ ((fault : SinkFault) × (s ≡ WriteFault fault) × GrowsByPrefix before (pending ++ text) after × rose)
    ⊎ ((s ≡ Refused NoMemory) × (after ≡ before))
