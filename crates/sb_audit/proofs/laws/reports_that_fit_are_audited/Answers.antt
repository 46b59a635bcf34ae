use Rattle.sb_audit.proofs.Converse.Passing.{transcripts_pass}
use Rattle.sb_audit.proofs.laws.reports_that_fit_are_audited.Goals as goal

pub returns : goal.returns
returns c =
    transcripts_pass c.lines_are_read.ensures c.lines_end_without_cr.ensures c.lines_end_once.ensures c.faultless_copies_fit.ensures c.first_rule_decides.ensures.deciding
