use Rattle.sb_transcript.proofs.Lengths.{entry_lines_are_short, result_lines_are_short, totals_are_short}
use Rattle.sb_transcript.proofs.length_laws.lines_are_short.Goals as goal

pub returns-clause-entries : goal.returns-clause-entries
returns-clause-entries c = entry_lines_are_short c.faultless_copies_fit.ensures

pub returns-clause-results : goal.returns-clause-results
returns-clause-results c = result_lines_are_short

pub returns-clause-totals : goal.returns-clause-totals
returns-clause-totals c = totals_are_short
