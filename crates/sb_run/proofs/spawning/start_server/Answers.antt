use contract.Lifetimes.{Lfts}
use denote.Param.Send.{IsSend, IsSync, sendable, param_send}
use Rattle.std.proofs.Crossing.{crosses}
use Rattle.atomic_table.proofs.shared.Shared.TheSendSync as shared
use Rattle.atomic_table.proofs.shared.Seat.TheSendSync as seat
use Rattle.atomic_table.proofs.send_lease.SendLease.TheSendSync as lease
use Rattle.sb_shared.proofs.Crossing.{world_sync}
use Rattle.sb_run.proofs.Crossing.{script_sync, server_return_send, work_send}
use Rattle.sb_run.specs.contracts.spawning.start_server.{J-row, G-row, R-row}
use Rattle.sb_run.proofs.spawning.start_server.Given.{Over}
use Rattle.sb_run.proofs.spawning.start_server.Lts.{arg-3-2}
use Rattle.sb_run.proofs.spawning.start_server.Goals as goal

pub spawn_with-requires-send-T : goal.spawn_with-requires-send-T
spawn_with-requires-send-T g c κs within = search (server_return_send, sendable) depth 40

-- the closure may go to another thread, stated apart from the premises at hand
closure_send : (g : Over) (κs : Lfts 13) → IsSync (J-row g.row.J g.row.G g.row.R) → IsSync (G-row g.row.J g.row.G g.row.R) → IsSync (R-row g.row.J g.row.G g.row.R)
    → IsSend (arg-3-2 g.row.J g.row.G g.row.R g.J.laws g.G.laws g.R.laws g.J.Judge g.J.Judge-dict g.G.Gate g.G.Gate-dict g.R.Threads g.R.Threads-dict g.R.Wait g.R.Wait-dict κs)
closure_send g κs judge gate runtime = search (script_sync, world_sync, work_send, shared.the_sync, seat.the_send, lease.the_sync, sendable, crosses) depth 60 fits 20000

pub spawn_with-requires-send-F : goal.spawn_with-requires-send-F
spawn_with-requires-send-F g c κs within = param_send 2 (arg-3-2 g.row.J g.row.G g.row.R g.J.laws g.G.laws g.R.laws g.J.Judge g.J.Judge-dict g.G.Gate g.G.Gate-dict g.R.Threads g.R.Threads-dict g.R.Wait g.R.Wait-dict κs) (closure_send g κs c.type_bounds.sync-J c.type_bounds.sync-G c.type_bounds.sync-R)
