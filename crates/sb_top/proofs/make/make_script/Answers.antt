use Rattle.std.proofs.Common.{◌∙◌, subst, sym}
use Rattle.sb_outside.specs.Outside.{joined}
use Rattle.sb_plain.specs.Readings.{ReportedEnd}
use Rattle.sb_top.specs.Make.{IsMadeEnd}
use Rattle.sb_top.proofs.Made.{made_end_of}
use Rattle.sb_top.proofs.make.make_script.Goals as goal

pub returns : goal.returns
returns g c =
    subst (λ (end : ReportedEnd). IsMadeEnd c.args.seed c.args.targets c.args.calls end) (sym c.with_report.ensures)
    (made_end_of c.args.seed c.args.targets c.args.calls c.in_ok-report.report (joined c.in_ok-texts.texts) (c.in_ok-texts.ensures ∙ c.in_ok-report.ensures.totals)
    c.in_ok-report.ensures.report)
