use Rattle.std.proofs.Common.{ap, ◌∙◌, refl, false}
use Rattle.sb_kernel.specs.Openings.{opening}
use Rattle.sb_book.specs.ReadyScripts.{Ready}
use Rattle.sb_audit.proofs.Keeping.{starts}
use Rattle.sb_audit.proofs.walks.Walk.new.Goals as goal

pub returns : goal.returns
returns c =
    starts c.args.ready.now.script (record { space = c.into_kernel.result; totals = c.no_totals.result; ended = false; rows = c.in_ok-new.field-0 })
    (c.into_kernel.ensures ∙ ap (λ (r : Ready). opening r.script.start) c.in_ok-start.ensures) c.no_totals.ensures refl c.in_ok-new.ensures
