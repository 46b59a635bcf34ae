use Rattle.std.proofs.Common.{◌∙◌}
use Rattle.sb_text.proofs.LineLemmas.{first_lf}
use Rattle.sb_text.proofs.lines.line_len.Goals as goal

pub returns-clause-value : goal.returns-clause-value
returns-clause-value c = c.unwrap_or.ensures ∙ first_lf c.args.bytes.now c.memchr.result c.memchr.ensures
