use Rattle.sb_dup.specs.declared.faults.MoveKind.TheVariants.{UnknownWord}
use Rattle.sb_text.specs.declared.refusals.WordFault.TheVariants.{Broken}
use Rattle.sb_dup.proofs.lines.line_end.Goals as goal

pub returns : goal.returns
returns c = c.expect_end.ensures (UnknownWord Broken)
