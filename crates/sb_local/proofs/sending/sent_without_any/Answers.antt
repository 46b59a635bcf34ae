use Rattle.std.proofs.Common.{◌≡◌, ◌∙◌, ◌<◌, [], length, sym, arith}
use Rattle.sb_local.specs.Denials.{denials}
use Rattle.sb_local.proofs.Denied.{no_denials, script_is_whole}
use Rattle.sb_local.proofs.sending.sent_without_any.Goals as goal

pub returns-in-empty-clause-script : goal.returns-in-empty-clause-script
returns-in-empty-clause-script g c =
    let policies = g.J.Judge.policies c.args.judge.now in
    let low = c.in-empty.len_below in
    let short : length c.args.denied.now < 1 = omega (arith, low) in
    let none : denials policies c.args.written.now.script ≡ [] = sym c.requires.denied ∙ no_denials c.args.denied.now short in
    script_is_whole policies c.args.written.now.script none
