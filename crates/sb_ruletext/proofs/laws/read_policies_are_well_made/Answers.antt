use Rattle.sb_ruletext.proofs.ReadWellMade.{read_well_made}
use Rattle.sb_ruletext.proofs.laws.read_policies_are_well_made.Goals as goal

pub returns : goal.returns
returns c =
    read_well_made (record {
      texts = c.texts_and_patterns.ensures.texts;
      patterns = c.texts_and_patterns.ensures.read;
      strings = c.quoted_strings_are_read.ensures.read;
    }) c.quoted_tokens_are_text.ensures
