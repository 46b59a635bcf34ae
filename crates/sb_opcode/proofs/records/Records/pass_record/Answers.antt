use Rattle.std.proofs.Common.{sym, ◌∙◌}
use Rattle.sb_opcode.proofs.KnownLemmas.{later_passed, opcode_passed}
use Rattle.sb_opcode.proofs.records.Records.pass_record.Goals as goal

pub invariant_of-self : goal.invariant_of-self
invariant_of-self c =
    later_passed c.self.inside.rest.now c.in_ok-acts.later.now c.in_ok-acts.acts c.in_ok-acts.ensures c.self.invariant

pub returns : goal.returns
returns c =
    let p = opcode_passed c.self.inside.rest.now c.in_ok-acts.later.now c.in_ok-acts.acts c.in_ok-acts.ensures c.self.invariant in
    (p.0, sym c.self.view_is ∙ p.1, p.2)
