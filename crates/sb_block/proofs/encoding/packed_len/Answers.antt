use Rattle.std.proofs.Common.{arith}
use Rattle.sb_block.proofs.PackingLemmas.{units_pass}
use Rattle.sb_block.proofs.encoding.packed_len.Goals as goal

pub returns-clause-units : goal.returns-clause-units
returns-clause-units c = units_pass c.args.units.now (λ k. let fits = c.type_inv.units k in omega arith)
