use Rattle.sb_top.proofs.Audits.{replays_are_audited, threaded_runs_are_audited}
use Rattle.sb_top.proofs.audit_laws.replays_are_audited.Goals as goal

pub returns-clause-replay : goal.returns-clause-replay
returns-clause-replay c = replays_are_audited c.reports_are_sound.ensures c.args.report.now c.establish_printable.ensures

pub returns-clause-run : goal.returns-clause-run
returns-clause-run c = threaded_runs_are_audited c.reports_are_sound.ensures c.args.report.now c.establish_printable.ensures
