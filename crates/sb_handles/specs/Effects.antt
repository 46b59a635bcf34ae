-- What a call of a service does.
use Rattle.std.specs.Prelude.{◌≡◌, ◌+◌, ◌||◌, ◌==◌, ℕ, Bool, List}
use Rattle.sb_call.specs.Statuses.{granting, name_exists, refusal, success}
use Rattle.sb_call.specs.declared.replies.Answer.{Answer}
use Rattle.sb_handles.specs.Tables.{Table, with_handle}
use Rattle.sb_handles.specs.declared.objects.Held.{Held}

-- the status says that a call was done and not refused; that the name exists is how event.create opens an event
abbrev pub is_done : ℕ → Bool
is_done status = status == success || status == name_exists

-- the service and the handles after the call, and its answer
pub record Effect (S : Type 0) : Type 0 where
  pub service : S
  pub handles : Table
  pub answer : Answer

module _ {S : Type 0} where
  -- the call is refused, and changes nothing
  abbrev pub refused : S → Table → ℕ → Effect S
  refused service handles status = record { service = service; handles = handles; answer = refusal status }

  -- a handle is granted, and shown with some extended words
  abbrev pub grants : S → Table → ℕ → Held → ℕ → List ℕ → Effect S
  grants service handles target held status words =
      record { service = service; handles = with_handle handles target held; answer = granting status (handles.granted + 1) words }

  -- what a call left, and what it answered, are those of an effect
  abbrev pub IsDone : Effect S → S → Table → Answer → Type 0
  IsDone effect service handles answer =
      (answer ≡ effect.answer) × (service ≡ effect.service) × (handles ≡ effect.handles)
