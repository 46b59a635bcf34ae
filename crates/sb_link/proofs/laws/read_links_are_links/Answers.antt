use Rattle.sb_link.proofs.Read.{read_links_are_links}
use Rattle.sb_link.proofs.laws.read_links_are_links.Goals as goal

pub returns : goal.returns
returns c = read_links_are_links c.quoted_strings_are_read.ensures.read c.quoted_tokens_are_text.ensures
