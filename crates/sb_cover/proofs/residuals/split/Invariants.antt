use Rattle.std.proofs.Common.{take}
use Rattle.sb_cover.proofs.ResidualLemmas.{IsParted}
use Rattle.sb_cover.proofs.residuals.split.Given as goal

abbrev pub invariant-loop-number : goal.invariant-loop-number
invariant-loop-number l = IsParted l.conds l.param (take l.number-index l.numbers) l.here l.later
