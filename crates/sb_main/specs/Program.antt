-- What the program does with its arguments, and what it tells of it on standard error.
use Rattle.std.specs.Prelude.{◌≡◌, ◌≢◌, ◌⊎◌, ◌++◌, ◌∷◌, ℕ, List, [], Option, None, IfSome, IsSome}
use Rattle.sb_commands.specs.Commands.{command_of}
use Rattle.sb_commands.specs.Inquiries.{answer_text, asked_of}
use Rattle.sb_commands.specs.Usage.{fault_of}
use Rattle.sb_commands.specs.declared.usage_faults.UsageFault.{UsageFault}
use Rattle.sb_commands.specs.declared.usage_faults.UsageFault.TheVariants as usage
use Rattle.sb_main.specs.Answers.{IsAnswer, IsTold}
use Rattle.sb_main.specs.Faulty.{IsFaulty}
use Rattle.sb_outside.specs.Outside.{GrowsBy, GrowsByPrefix, Rose}
use Rattle.sb_plain.specs.Effects.{Effect}
use Rattle.sb_plain.specs.declared.outcomes.Outcome.{Outcome}
use Rattle.sb_message.specs.StatusMessages.{IsMessageOf}
use Rattle.sb_message.specs.Statuses.{code_of, line_of}
use Rattle.sb_message.specs.declared.statuses.Refusal.{Refusal}
use Rattle.sb_message.specs.declared.statuses.Refusal.TheVariants.{NoMemory, Usage}
use Rattle.sb_message.specs.declared.statuses.Status.{Status}
use Rattle.sb_message.specs.declared.statuses.Status.TheVariants.{Done, Refused}

-- ---- standard error

-- an output at one time: what was written, if this is known, what is pending, and its count of faults
pub record Output : Type 0 where
  pub written : Option (List ℕ)
  pub pending : List ℕ
  pub faults : ℕ

-- an output, by what it tells of itself
abbrev pub output : {S : Type 0} → (S → Option (List ℕ)) → (S → List ℕ) → (S → ℕ) → S → Output
output written pending faults s = record { written = written s; pending = pending s; faults = faults s }

-- the output grew by what was pending and then this text, and nothing is pending; or it failed, and grew by a prefix of that
abbrev pub IsPutOnce : List ℕ → Output → Output → Type 0
IsPutOnce text before after =
    (GrowsBy before.written (before.pending ++ text) after.written × (after.pending ≡ []))
    ⊎ (GrowsByPrefix before.written (before.pending ++ text) after.written × Rose before.faults after.faults)

-- what is told in place of a message if there is no memory for it: the line of the status alone, and nothing with Done
abbrev pub short_message : Status → List ℕ
short_message Done = []
short_message status = line_of status ++ 10 ∷ []

-- what is told if there is no memory for that line either: that there is none
abbrev pub shortest_message : List ℕ
shortest_message = line_of (Refused NoMemory) ++ 10 ∷ []

-- the text is a message of the outcome of these arguments; or there was no memory for that, and it is the short one; or there was none for this either
abbrev pub IsMessage : List (List ℕ) → Outcome → List ℕ → Type 0
IsMessage words o text =
    IsMessageOf words o.files o.status o.shown text
    ⊎ (text ≡ short_message o.status)
    ⊎ ((o.status ≢ Done) × (text ≡ shortest_message))

-- a message of the outcome was put, once
pub record IsComplaint (words : List (List ℕ)) (o : Outcome) (before after : Output) : Type 0 where
  pub text : List ℕ
  pub is : IsMessage words o text
  pub put : IsPutOnce text before after

-- ---- the program

-- an outcome before a command is carried out: it has no report, and shows nothing
abbrev pub bare : Status → Outcome
bare status = record { status = status; files = []; shown = None; report = None }

-- The arguments, without the name of the program, come to this effect and outcome. If they ask about the program itself the text that answers is put, and no file is
-- touched; otherwise they are a command, or have a fault
pub record IsAnswered {G S : Type 0} (words : List (List ℕ)) (e : Effect G S) (o : Outcome) : Type 0 where
  pub usage : (fault : UsageFault) → o.status ≡ Refused (Usage fault) → IsFaulty (fault_of fault) words
  pub command : asked_of words ≡ None → IsAnswer (command_of words) e o
  pub asked : IfSome (asked_of words) (λ a. IsTold (answer_text a) e.written e.pending e.written' e.pending' (Rose e.puts e.puts') o.status)
  pub unshown : IsSome (asked_of words) → o.shown ≡ None
  pub untouched : IsSome (asked_of words) → e.files' ≡ e.files

-- the arguments were answered, the message of the outcome was told once, and the exit code is that of its status
pub record IsSettled {G S : Type 0} (words : List (List ℕ)) (e : Effect G S) (before after : Output) (exit : ℕ) : Type 0 where
  pub outcome : Outcome
  pub answered : IsAnswered words e outcome
  pub told : IsComplaint words outcome before after
  pub code : exit ≡ code_of outcome.status

-- the arguments were not gathered: they are not UTF-8, or there was no memory for them
abbrev pub IsUngathered : Refusal → Type 0
IsUngathered why = (why ≡ NoMemory) ⊎ (why ≡ Usage usage.NotUtf8)

-- this was told once in place of an answer, the exit code is that of the status, and neither files nor output were touched
pub record IsUnanswered {G S : Type 0} (status : Status) (e : Effect G S) (before after : Output) (exit : ℕ) : Type 0 where
  pub files : e.files' ≡ e.files
  pub out : e.out' ≡ e.out
  pub told : IsComplaint [] (bare status) before after
  pub code : exit ≡ code_of status
