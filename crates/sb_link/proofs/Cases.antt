-- Small cases, by computation.
use Rattle.std.proofs.Common.{refl}
use Rattle.sb_link.specs.Cases.{ChainsResolve, LongestResolves, LoopsDoNotResolve, RingsDoNotResolve}

pub loops : LoopsDoNotResolve
loops = (refl, refl)

pub rings : RingsDoNotResolve
rings = refl

pub chains : ChainsResolve
chains = (refl, refl)

pub longest : LongestResolves
longest = (refl, refl, refl)
