use Rattle.std.proofs.Common.{◌≡◌, rules}
use Rattle.std.specs.Prelude.{Ok}
use Rattle.sb_main.proofs.Faulty.{settled}
use Rattle.sb_main.proofs.run.Goals as goal

pub returns-clause-settled : goal.returns-clause-settled
returns-clause-settled g c =
    let is : c.args.arguments ≡ Ok c.in-Ok.words = search rules in
    let seen : c.deref.result.now ≡ c.in-Ok.words.items = search rules in
    let seen_again : c.deref-2.result.now ≡ c.in-Ok.words.items = search rules in
    let a = c.answer-outcome.ensures in
    settled c.args.arguments c.in-Ok.words c.deref.result.now c.deref-2.result.now _ c.answer-outcome.result _ _ c.exit_code.result is seen seen_again
    (record { usage = a.usage; command = a.command; asked = a.asked; unshown = a.unshown; untouched = a.untouched }) c.complain.ensures c.exit_code.ensures
