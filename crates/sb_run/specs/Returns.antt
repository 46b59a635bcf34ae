-- What a thread of a run gives back to the one that started it.
use Rattle.std.specs.Prelude.{◌≡◌, ⊤}
use Rattle.sb_shared.specs.Seats.{ThreadSeatValue}
use Rattle.sb_run.specs.Servers.{IsSameServer, ServerAt}
use Rattle.sb_run.specs.Threads.{HasEnded}
use Rattle.sb_run.specs.declared.returns.ServerReturn.{ServerReturn}
use Rattle.sb_run.specs.declared.returns.ServerReturn.TheVariants as server
use Rattle.sb_run.specs.declared.returns.ThreadReturn.{ThreadReturn}
use Rattle.sb_run.specs.declared.returns.ThreadReturn.TheVariants as thread

-- the thread of a seat ended, came back without a step, or was stopped since memory ran out
abbrev pub IsThreadReturn : ThreadSeatValue → ThreadReturn → Type 0
IsThreadReturn x (thread.Ended y) = HasEnded x y
IsThreadReturn x (thread.Back y) = y ≡ x
IsThreadReturn x thread.Stopped = ⊤

-- and one that serves targets
abbrev pub IsServerReturn : ServerAt → ServerReturn → Type 0
IsServerReturn x (server.Ended y) = IsSameServer x y
IsServerReturn x (server.Back y) = y ≡ x
IsServerReturn x server.Stopped = ⊤
