-- What an event is made with, and its numbers.
use Rattle.std.specs.Prelude.{ℕ, Bool, ◌||◌, not, ◌==◌, nat_lt, if◌then◌else◌}
use Rattle.sb_services.specs.declared.event_kinds.EventKind.{EventKind}
use Rattle.sb_services.specs.declared.event_kinds.EventKind.TheVariants.{Notification, Synchronization}

-- 0 is a notification event, any other number a synchronization event
abbrev pub kind_from : ℕ → EventKind
kind_from number = if number == 0 then Notification else Synchronization

abbrev pub kind_number : EventKind → ℕ
kind_number Notification = 0
kind_number Synchronization = 1

-- 0 is not signaled, any other number signaled
abbrev pub state_from : ℕ → Bool
state_from number = not (number == 0)

abbrev pub state_number : Bool → ℕ
state_number signaled = if signaled then 1 else 0

-- kind and initial state are 0 or 1 each
abbrev pub is_invalid : ℕ → ℕ → Bool
is_invalid kind initial = nat_lt 1 kind || nat_lt 1 initial
