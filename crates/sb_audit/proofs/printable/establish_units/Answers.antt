use Rattle.std.proofs.Common.{arith}
use Rattle.sb_audit.proofs.Printing.{all_units}
use Rattle.sb_audit.proofs.printable.establish_units.Goals as goal

pub returns : goal.returns
returns c = all_units c.args.units.now (λ i. omega (arith, c.type_inv.units i))
