use Rattle.sb_ruletext.proofs.PrintedTexts.{printed_read}
use Rattle.sb_ruletext.proofs.printing_laws.printed_policies_are_read.Goals as goal

pub returns : goal.returns
returns c =
    printed_read (record {
      utf8 = c.not_utf8_place_tells.ensures;
      plain = c.plain_lines_are_read.ensures.utf8;
      lines = c.plain_lines_are_read.ensures.lines;
      tokens = c.plain_lines_are_read.ensures.tokens;
      texts = record {
        numbers = c.hexadecimals_are_read.ensures;
        strings = c.quoted_strings_are_read.ensures.written;
        patterns = λ cells h. (c.texts_and_patterns.ensures.patterns cells).0 h;
      };
    })
