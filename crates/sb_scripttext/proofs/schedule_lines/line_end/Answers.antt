use Rattle.sb_scripttext.specs.declared.schedule_faults.ScheduleKind.TheVariants.{UnknownWord}
use Rattle.sb_text.specs.declared.refusals.WordFault.TheVariants.{Broken}
use Rattle.sb_scripttext.proofs.schedule_lines.line_end.Goals as goal

pub returns : goal.returns
returns c = c.expect_end.ensures (UnknownWord Broken)
