use Rattle.std.proofs.Common.{rules, ◌≡◌, subst, sym, List, Ok}
use Rattle.sb_call.specs.declared.arguments.Arg.{Arg}
use Rattle.sb_link.specs.Answers.{copy_of, resolved_args}
use Rattle.sb_link.proofs.Resolved.{resolved_then}
use Rattle.sb_link.proofs.stops.link_call.Goals as goal

pub returns-clause-copy : goal.returns-clause-copy
returns-clause-copy c =
    let call = c.args.call.now in
    let args : resolved_args c.args.links.now call.tag call.args ≡ Ok c.in_ok-args.args = search rules in
    let copy = subst (λ (a : List Arg). copy_of call.tag call.mark a ≡ Ok c.in_ok-copy.copy) c.as_slice-2.ensures c.in_ok-copy.ensures.copy in
    resolved_then c.args.links.now call c.in_ok-args.args c.in_ok-copy.copy args copy
