use Rattle.std.proofs.Common.{arith}
use Rattle.sb_audit.proofs.Printing.{all_words}
use Rattle.sb_audit.proofs.printable.establish_words.Goals as goal

pub returns : goal.returns
returns c = all_words c.args.words.now (λ i. omega (arith, c.type_inv.words i))
