use Rattle.sb_text.proofs.QuotedStrings.{quoted_is_text}
use Rattle.sb_text.proofs.WrittenStrings.{string_back}
use Rattle.sb_text.proofs.laws.quoted_strings_are_read.Goals as goal

pub returns-clause-written : goal.returns-clause-written
returns-clause-written c = string_back

pub returns-clause-read : goal.returns-clause-read
returns-clause-read c = quoted_is_text
