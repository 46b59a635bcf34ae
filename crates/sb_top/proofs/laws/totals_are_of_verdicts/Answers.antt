use Rattle.sb_top.proofs.Totalling.{totals_are_of_verdicts}
use Rattle.sb_top.proofs.laws.totals_are_of_verdicts.Goals as goal

pub returns : goal.returns
returns c =
    totals_are_of_verdicts c.blocks_come_back.ensures c.sound_parts.ensures.targets c.sound_parts.ensures.statements
