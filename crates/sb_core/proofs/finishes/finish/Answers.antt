use Rattle.std.proofs.Common.{◌≡◌, ◌∙◌, ap, subst, IfOk}
use Rattle.sb_core.proofs.Names.{drained, report_of, SharedAt, WorldAt}
use Rattle.sb_core.proofs.finishes.finish.Goals as goal

pub returns : goal.returns
returns g c =
    let same = ap (λ (w : WorldAt). w.shared) (c.world.view_is ∙ (c.in_ok-settle.ensures.ok ∙ ap drained c.in_ok-world.ensures)) in
    subst (λ (s : SharedAt). IfOk c.report_of.result (λ r. r ≡ report_of s c.args.results)) same c.report_of.ensures
