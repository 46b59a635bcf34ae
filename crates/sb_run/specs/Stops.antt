-- What is known of the stop word by a seat that saw it, or set it.
use Rattle.std.specs.Prelude.{◌≡◌, ◌<◌, ⊤}
use Rattle.sb_shared.specs.Closing.{IsWorkerOf}
use Rattle.sb_shared.specs.Events.{stop_in}
use Rattle.sb_shared.specs.Seats.{SharedValue, WorkerSeatValue}
use Rattle.sb_run.specs.declared.serving.Attendance.{Attendance}
use Rattle.sb_run.specs.declared.serving.Attendance.TheVariants as attendance

-- the seat of a worker of this world knows that a stop was set
pub record HasSeenStop (world : SharedValue) (seat : WorkerSeatValue) : Type 0 where
  pub own : IsWorkerOf world seat
  pub stop : 0 < stop_in seat.history

-- it knows that memory ran out
pub record HasSeenFailure (world : SharedValue) (seat : WorkerSeatValue) : Type 0 where
  pub own : IsWorkerOf world seat
  pub stop : stop_in seat.history ≡ 2

-- a pass of a thread that serves ended so; it says that the run stopped only if a stop was set
abbrev pub IsAttendance : SharedValue → Attendance → Type 0
IsAttendance world attendance.Served = ⊤
IsAttendance world attendance.Idle = ⊤
IsAttendance world (attendance.Stopped seen) = HasSeenStop world seen.value
