-- What the threads of a crew share, and what goes to them.
use denote.Param.Send.{IsSync, sendable}
use Rattle.std.proofs.Crossing.{crosses}
use Rattle.sb_shared.proofs.Crossing.{keeper_send, thread_send, worker_send, world_sync}
use Rattle.sb_statements.specs.contracts.scripts.Script as Script
use Rattle.sb_statements.specs.contracts.sound_scripts.SoundScript as SoundScript

plain_sync : IsSync Script.the_row
plain_sync = search (sendable, crosses) depth 200 fits 20000

pub script_sync : IsSync SoundScript.the_row
script_sync = search (plain_sync, sendable, crosses) depth 200 fits 20000

pub ruleset crew_crosses = (script_sync, world_sync, keeper_send, thread_send, worker_send)
