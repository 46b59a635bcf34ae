use Rattle.sb_scripttext.proofs.WrittenScripts.{written_scripts_are_read}
use Rattle.sb_scripttext.proofs.laws.written_scripts_are_read.Goals as goal

pub returns : goal.returns
returns c =
    written_scripts_are_read (record {
      utf8 = c.not_utf8_place_tells.ensures;
      plain = c.plain_lines_are_read.ensures.utf8;
      lines = c.plain_lines_are_read.ensures.lines;
      tokens = c.plain_lines_are_read.ensures.tokens;
      texts = record { numbers = c.decimals_are_read.ensures; strings = c.quoted_strings_are_read.ensures.written };
    })
