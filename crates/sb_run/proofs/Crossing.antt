-- What a run hands to its threads, and what they share.
use denote.Param.Send.{IsSend, IsSync, sendable}
use Rattle.std.proofs.Crossing.{crosses}
use Rattle.atomic_table.proofs.shared.Seat.TheSendSync as seat
use Rattle.sb_run.specs.contracts.returns.ServerReturn as ServerReturn
use Rattle.sb_run.specs.contracts.returns.ThreadReturn as ThreadReturn
use Rattle.sb_shared.proofs.Crossing.{thread_send, worker_send}
use Rattle.sb_statements.specs.contracts.scripts.Script as Script
use Rattle.sb_statements.specs.contracts.sound_scripts.SoundScript as SoundScript
use Rattle.sb_run.specs.contracts.works.Work as Work

plain_sync : IsSync Script.the_row
plain_sync = search (sendable, crosses) depth 200 fits 20000

pub script_sync : IsSync SoundScript.the_row
script_sync = search (plain_sync, sendable, crosses) depth 200 fits 20000

pub work_send : IsSend Work.the_row
work_send = search (worker_send, sendable, crosses) depth 40 fits 20000

pub thread_return_send : IsSend ThreadReturn.the_row
thread_return_send = search (thread_send, sendable, crosses) depth 40

pub server_return_send : IsSend ServerReturn.the_row
server_return_send = search (worker_send, work_send, seat.the_send, sendable, crosses) depth 40 fits 20000
