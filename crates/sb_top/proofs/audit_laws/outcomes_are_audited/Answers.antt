use Rattle.sb_top.proofs.Audits.{outcomes_are_audited}
use Rattle.sb_top.proofs.audit_laws.outcomes_are_audited.Goals as goal

pub returns : goal.returns
returns g c = outcomes_are_audited c.reports_are_sound.ensures _ _ c.args.outcome.now c.establish_report.ensures
