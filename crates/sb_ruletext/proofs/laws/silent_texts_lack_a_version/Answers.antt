use Rattle.sb_ruletext.proofs.Prefixes.{silent_texts_lack_a_version}
use Rattle.sb_ruletext.proofs.laws.silent_texts_lack_a_version.Goals as goal

pub returns : goal.returns
returns c = silent_texts_lack_a_version
