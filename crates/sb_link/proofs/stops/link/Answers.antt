use Rattle.std.proofs.Common.{rules, ◌≡◌, ◌∙◌, ap, subst, sym, Err}
use Rattle.sb_block.specs.Calls.{decoded}
use Rattle.sb_block.specs.declared.faults.BlockFault.{BlockFault}
use Rattle.sb_link.proofs.stops.link.Goals as goal

pub returns-in-Err-Fault-clause-call : goal.returns-in-Err-Fault-clause-call
returns-in-Err-Fault-clause-call c =
    let fault : decoded c.args.taken.now ≡ Err c.in-Err-Fault.fault = search rules in
    subst (λ (f : BlockFault). decoded c.copy.result ≡ Err f) (sym c.in-Err-Fault.fault-is) (ap decoded c.copy.ensures ∙ fault)
