use Rattle.sb_top.proofs.Sound.{runs_are_sound}
use Rattle.sb_top.proofs.laws.runs_are_sound.Goals as goal

pub returns : goal.returns
returns c =
    runs_are_sound c.runs_are_legal.ensures c.runs_are_whole.ensures.results c.runs_are_whole.ensures.words c.runs_fit.ensures
    c.no_block_is_invented.ensures.sources c.no_block_is_invented.ensures.few
    c.entries_are_at_most_statements.ensures.runs c.entries_are_at_most_statements.ensures.most c.transcripts_are_short.ensures
    c.reports_that_fit_are_audited.ensures
