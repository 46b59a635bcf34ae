use denote.Param.Send.{sendable}
use Rattle.std.proofs.Crossing.{crosses}
use Rattle.sb_tables.proofs.Crossing.{crew_crosses}
use Rattle.sb_tables.proofs.crews.together.Goals as goal

pub join-keeper-requires-send-F : goal.join-keeper-requires-send-F
join-keeper-requires-send-F g c κs within = search (crew_crosses, sendable, crosses) depth 60 fits 20000

pub join-keeper-requires-send-A : goal.join-keeper-requires-send-A
join-keeper-requires-send-A g c κs within = search (crew_crosses, sendable, crosses) depth 40
