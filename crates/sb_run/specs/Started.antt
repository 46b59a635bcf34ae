-- What was started, and what of it the caller does.
use Rattle.std.specs.Prelude.{◌≡◌, Bool, true, false, not, Option, None, Some}
use Rattle.sb_actor.specs.Places.{is_finished}
use Rattle.sb_shared.specs.Seats.{ThreadSeatValue}
use Rattle.sb_run.specs.Servers.{ServerAt}
use Rattle.sb_run.specs.declared.promises.ServerHost.{ServerHost}
use Rattle.sb_run.specs.declared.promises.ServerHost.TheVariants as server
use Rattle.sb_run.specs.declared.promises.ThreadHost.{ThreadHost}
use Rattle.sb_run.specs.declared.promises.ThreadHost.TheVariants as thread

-- a thread of the script: its seat as it was at first, and as it is now if the caller makes its steps
pub record StartedAt : Type 0 where
  pub first : ThreadSeatValue
  pub caller : Option ThreadSeatValue

-- the seat whose steps the caller makes
abbrev pub with_caller : ThreadHost → Option ThreadSeatValue
with_caller (thread.Thread h) = None
with_caller (thread.Caller y) = Some y

abbrev pub started_thread : ThreadSeatValue → ThreadHost → StartedAt
started_thread first host = record { first = first; caller = with_caller host }

-- a thread is not finished
abbrev pub is_unfinished : Option ThreadSeatValue → Bool
is_unfinished None = false
is_unfinished (Some y) = not (is_finished y.key.script.value y.run.thread)

-- the caller has no step of this thread to make
abbrev pub IsDone : StartedAt → Type 0
IsDone s = is_unfinished s.caller ≡ false

-- a seat of the pool as it was at first, and whether the caller serves with it
pub record StartedServerAt : Type 0 where
  pub first : ServerAt
  pub by_caller : Bool

abbrev pub is_caller : ServerHost → Bool
is_caller (server.Thread h) = false
is_caller (server.Caller y) = true
is_caller server.Stopped = false

abbrev pub started_server : ServerAt → ServerHost → StartedServerAt
started_server first host = record { first = first; by_caller = is_caller host }
