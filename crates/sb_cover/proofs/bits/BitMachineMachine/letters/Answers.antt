use Rattle.sb_cover.proofs.BitLemmas.{bit_for}
use Rattle.sb_cover.proofs.bits.BitMachineMachine.letters.Goals as goal

pub returns-clause-all : goal.returns-clause-all
returns-clause-all c = λ unit. bit_for c.in_ok-letters.letters.items c.in_ok-letters.ensures.items unit
