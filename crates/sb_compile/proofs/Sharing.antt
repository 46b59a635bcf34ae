-- The programs of a run may be shared by threads.
use denote.Param.Send.{IsSync, sendable}
use denote.Ref.{NamedLft}
use Rattle.std.proofs.Crossing.{crosses}
use Rattle.sb_compile.specs.contracts.targets.Programs as Programs

pub programs_sync : (κ : NamedLft) → IsSync (Programs.the_row κ)
programs_sync κ = search (sendable, crosses) depth 200 fits 20000
