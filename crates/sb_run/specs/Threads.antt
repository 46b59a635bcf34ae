-- The end of a thread of the script.
use Rattle.std.specs.Prelude.{◌≡◌, true}
use Rattle.sb_actor.specs.Places.{is_finished}
use Rattle.sb_shared.specs.Seats.{IsSameThread, ThreadSeatValue}

-- the seat of the same thread, and each of its statements has ended
pub record HasEnded (old new : ThreadSeatValue) : Type 0 where
  pub same : IsSameThread old new
  pub finished : is_finished new.key.script.value new.run.thread ≡ true
