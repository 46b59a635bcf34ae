use Rattle.sb_link.proofs.Written.{written_links_are_read}
use Rattle.sb_link.proofs.laws.written_links_are_read.Goals as goal

pub returns : goal.returns
returns c =
    written_links_are_read (record {
      utf8 = c.not_utf8_place_tells.ensures;
      plain = c.plain_lines_are_read.ensures.utf8;
      lines = c.plain_lines_are_read.ensures.lines;
      tokens = c.plain_lines_are_read.ensures.tokens;
      strings = c.quoted_strings_are_read.ensures.written;
    })
