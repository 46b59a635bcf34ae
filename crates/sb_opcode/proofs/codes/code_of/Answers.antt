use Rattle.std.proofs.Common.{arith}
use Rattle.sb_opcode.proofs.PackingLemmas.{few_opcodes}
use Rattle.sb_opcode.proofs.codes.code_of.Goals as goal

pub invariant_of-result : goal.invariant_of-result
invariant_of-result c =
    let few = few_opcodes c.args.words.items c.requires.packed in
    (c.requires.packed, omega (arith, few, c.requires.few))
