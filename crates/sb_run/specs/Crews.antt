-- The threads of a run, as the one that starts them has them.
use Rattle.std.specs.Prelude.{◌≡◌, ◌<◌, ⊤, List, map}
use Rattle.std.specs.List.{All, AllZip}
use Rattle.sb_shared.specs.Closing.{IsKeeper, IsThreadSeat}
use Rattle.sb_shared.specs.Events.{stop_in}
use Rattle.sb_shared.specs.Opening.{thread_places}
use Rattle.sb_shared.specs.Seats.{IsSameThread, KeeperValue, SharedValue, ThreadSeatValue}
use Rattle.sb_run.specs.Contexts.{ContextAt, IsContext}
use Rattle.sb_run.specs.Servers.{IsSameServer, IsServer, ServerAt}
use Rattle.sb_run.specs.Threads.{HasEnded}
use Rattle.sb_run.specs.declared.promises.ServerHost.{ServerHost}
use Rattle.sb_run.specs.declared.promises.ServerHost.TheVariants as server
use Rattle.sb_run.specs.declared.promises.ThreadHost.{ThreadHost}
use Rattle.sb_run.specs.declared.promises.ThreadHost.TheVariants as thread

-- a thread of the scope makes the steps of this seat's thread, or the caller does
abbrev pub IsThreadHostOf : ThreadSeatValue → ThreadHost → Type 0
IsThreadHostOf x (thread.Thread h) = h.promise.seat.value ≡ x
IsThreadHostOf x (thread.Caller y) = IsSameThread x y

-- a thread of the scope serves with this seat, or the caller does
abbrev pub IsServerHostOf : ServerAt → ServerHost → Type 0
IsServerHostOf x (server.Thread h) = h.promise.server.value ≡ x
IsServerHostOf x (server.Caller y) = IsSameServer x y
IsServerHostOf x server.Stopped = ⊤

-- these seats are those of all threads of the script, by target and then by number
abbrev pub AreAll : SharedValue → List ThreadSeatValue → Type 0
AreAll world seats = map (λ s. (s.target, s.thread)) seats ≡ thread_places world.key.script.value.targets

-- a run can begin
pub record CanRun (x : ContextAt) (threads : List ThreadSeatValue) (servers : List ServerAt) (keeper : KeeperValue) : Type 0 where
  pub context : IsContext x
  pub its_threads : All (IsThreadSeat x.world) threads
  pub all : AreAll x.world threads
  pub its_servers : All (IsServer x) servers
  pub its_keeper : IsKeeper x.world keeper

-- it has ended: each thread has, the seats of the pool are what they were, and the caller's seat is still of the world, in which a stop was set
pub record HasRun (x : ContextAt) (threads : List ThreadSeatValue) (servers : List ServerAt) (ended : List ThreadSeatValue) (back : List ServerAt) (keeper : KeeperValue) : Type 0 where
  pub all_ended : AllZip HasEnded threads ended
  pub served : AllZip IsSameServer servers back
  pub its_keeper : IsKeeper x.world keeper
  pub stopped : 0 < stop_in keeper.history
