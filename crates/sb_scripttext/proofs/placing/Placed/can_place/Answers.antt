use Rattle.std.proofs.Common.{◌≡◌, ◌∙◌, ap, subst, sym}
use Rattle.std.specs.Prelude.{is_some}
use Rattle.sb_kernel.specs.Openings.{placed}
use Rattle.sb_scripttext.specs.Openings.{can_place}
use Rattle.sb_scripttext.proofs.Opened.{opening_is}
use Rattle.sb_scripttext.proofs.placing.Placed.can_place.Goals as goal

pub returns : goal.returns
returns c =
    subst (λ lines. c.can_place.result ≡ can_place lines c.args.line.now) c.self.view_is
    (c.can_place.ensures ∙ ap (λ ns. is_some (placed ns c.args.line.now)) (sym (opening_is c.self.inside.lines c.self.inside.kernel c.self.invariant)))
