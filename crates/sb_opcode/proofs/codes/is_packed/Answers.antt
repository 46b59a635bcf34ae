use Rattle.std.proofs.Common.{sym, ◌∙◌}
use Rattle.sb_opcode.proofs.PackingLemmas.{packed_later, later_shorter}
use Rattle.sb_opcode.proofs.codes.is_packed.Goals as goal

pub loop-later-smaller : goal.loop-later-smaller
loop-later-smaller c = later_shorter c.loop-later.rest.now c.in-Some.later.now c.in-Some.ensures

pub loop-later-preserved : goal.loop-later-preserved
loop-later-preserved c = sym (packed_later c.loop-later.rest.now c.in-Some.later.now c.in-Some.ensures) ∙ c.loop-later.invariant
