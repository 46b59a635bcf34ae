use Rattle.sb_dup.proofs.Written.{written_read}
use Rattle.sb_dup.proofs.laws.written_moves_are_read.Goals as goal

pub returns : goal.returns
returns c =
    written_read (record {
      lines = c.plain_lines_are_read.ensures.lines;
      words = c.plain_lines_are_read.ensures.words;
      numbers = c.decimals_are_read.ensures;
    })
