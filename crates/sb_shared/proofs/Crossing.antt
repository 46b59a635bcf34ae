-- What of a shared world may cross threads: a seat may go to another thread, and threads may share a world.
use denote.Param.Send.{IsSend, IsSync, sendable}
use Rattle.std.proofs.Crossing.{crosses}
use Rattle.std.proofs.MapsCrossing.{BTreeMap-send}
use Rattle.atomic_table.proofs.shared.Seat.TheSendSync as seat
use Rattle.atomic_table.proofs.shared.Shared.TheSendSync as shared
use Rattle.atomic_table.proofs.send_lease.SendLease.TheSendSync as lease
use Rattle.sb_actor.specs.contracts.threads.ThreadState as ThreadState
use Rattle.sb_actor.specs.contracts.workers.WorkerState as WorkerState
use Rattle.sb_book.specs.contracts.books.Book as Book
use Rattle.sb_book.specs.contracts.decisions.Decision as Decision
use Rattle.sb_kernel.specs.contracts.kernels.Kernel as Kernel
use Rattle.sb_statements.specs.contracts.results.StmtResult as StmtResult
use Rattle.sb_shared.specs.contracts.books.BoxedBook as BoxedBook
use Rattle.sb_shared.specs.contracts.keepers.Keeper as Keeper
use Rattle.sb_shared.specs.contracts.rooms.ResultRoom as ResultRoom
use Rattle.sb_shared.specs.contracts.rooms.WordRoom as WordRoom
use Rattle.sb_shared.specs.contracts.threads.ThreadSeat as ThreadSeat
use Rattle.sb_shared.specs.contracts.workers.WorkerBody as WorkerBody
use Rattle.sb_shared.specs.contracts.workers.WorkerSeat as WorkerSeat
use Rattle.sb_shared.specs.contracts.worlds.SharedWorld as SharedWorld

kernel_send : IsSend Kernel.the_row
kernel_send = search (BTreeMap-send, sendable, crosses) depth 40 fits 20000

book_send : IsSend Book.the_row
book_send = search (kernel_send, sendable, crosses) depth 120 fits 100000

boxed_send : IsSend BoxedBook.the_row
boxed_send = search (book_send, sendable, crosses) depth 40 fits 20000

decision_send : IsSend Decision.the_row
decision_send = search (sendable, crosses) depth 40 fits 20000

thread_state_send : IsSend ThreadState.the_row
thread_state_send = search (sendable, crosses) depth 40 fits 20000

worker_state_send : IsSend WorkerState.the_row
worker_state_send = search (sendable, crosses) depth 40 fits 20000

worker_state_sync : IsSync WorkerState.the_row
worker_state_sync = search (sendable, crosses) depth 40 fits 20000

result_sync : IsSync StmtResult.the_row
result_sync = search (sendable, crosses) depth 40 fits 20000

word_room_sync : IsSync WordRoom.the_row
word_room_sync = search (sendable, crosses) depth 40 fits 20000

result_room_sync : IsSync ResultRoom.the_row
result_room_sync = search (result_sync, sendable, crosses) depth 40 fits 20000

result_send : IsSend StmtResult.the_row
result_send = search (sendable, crosses) depth 40 fits 20000

body_send : IsSend WorkerBody.the_row
body_send = search (boxed_send, decision_send, worker_state_send, seat.the_send, sendable, crosses) depth 40 fits 20000

pub thread_send : IsSend ThreadSeat.the_row
thread_send = search (boxed_send, thread_state_send, result_send, seat.the_send, sendable, crosses) depth 40 fits 20000

pub worker_send : IsSend WorkerSeat.the_row
worker_send = search (body_send, sendable, crosses) depth 40 fits 20000

pub keeper_send : IsSend Keeper.the_row
keeper_send = search (boxed_send, seat.the_send, sendable, crosses) depth 40

pub world_sync : IsSync SharedWorld.the_row
world_sync = search (boxed_send, word_room_sync, result_room_sync, worker_state_sync, result_sync, shared.the_sync, lease.the_sync, sendable, crosses) depth 80 fits 20000
