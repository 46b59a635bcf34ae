use contract.Lifetimes.{Lfts}
use denote.Param.Send.{IsSend, IsSync, sendable, param_send}
use Rattle.std.proofs.Crossing.{crosses}
use Rattle.sb_shared.proofs.Crossing.{thread_send, world_sync}
use Rattle.sb_run.proofs.Crossing.{script_sync, thread_return_send}
use Rattle.sb_run.specs.contracts.spawning.start_thread.{R-row}
use Rattle.sb_run.proofs.spawning.start_thread.Given.{Over}
use Rattle.sb_run.proofs.spawning.start_thread.Lts.{arg-3-2}
use Rattle.sb_run.proofs.spawning.start_thread.Goals as goal

pub spawn_with-requires-send-T : goal.spawn_with-requires-send-T
spawn_with-requires-send-T g c κs within = search (thread_return_send, sendable) depth 40

-- the closure may go to another thread, stated apart from the premises at hand
closure_send : (g : Over) (κs : Lfts 11) → IsSync (R-row g.row.R) → IsSend (arg-3-2 g.row.R g.R.laws g.R.Threads-dict g.R.Wait-dict κs)
closure_send g κs sync = search (script_sync, world_sync, thread_send, sendable, crosses) depth 60 fits 20000

pub spawn_with-requires-send-F : goal.spawn_with-requires-send-F
spawn_with-requires-send-F g c κs within = param_send 2 (arg-3-2 g.row.R g.R.laws g.R.Threads-dict g.R.Wait-dict κs) (closure_send g κs c.type_bounds.sync-R)
