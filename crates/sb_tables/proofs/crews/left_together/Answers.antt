use denote.Param.Send.{sendable}
use Rattle.sb_compile.proofs.Sharing.{programs_sync}
use Rattle.sb_tables.proofs.crews.left_together.Goals as goal

pub together-keeper-requires-sync-J : goal.together-keeper-requires-sync-J
together-keeper-requires-sync-J g c κs within = search (programs_sync, sendable) depth 40
