use Rattle.std.proofs.Common.{arith, ap, ◌∙◌, length, length-drop}
use Rattle.sb_text.proofs.Scans.{starts_quote, starts_word}
use Rattle.sb_text.proofs.tokens.first_token.Goals as goal

pub returns-then-as_bytes-eq34-clause-token : goal.returns-then-as_bytes-eq34-clause-token
returns-then-as_bytes-eq34-clause-token c end =
    starts_quote end c.args.text.now c.requires.some (rw c.as_bytes.ensures.value at c.if-as_bytes-eq34.true)
    ∙ rw c.after_ascii.ensures at (c.quoted.ensures.token (length c.args.text.now))

pub returns-then-as_bytes-eq34-clause-shorter : goal.returns-then-as_bytes-eq34-clause-shorter
returns-then-as_bytes-eq34-clause-shorter c =
    omega (arith, length-drop 1 c.args.text.now, ap length c.after_ascii.ensures, c.quoted.ensures.shorter, c.requires.some)

pub returns-else-as_bytes-eq34-clause-token : goal.returns-else-as_bytes-eq34-clause-token
returns-else-as_bytes-eq34-clause-token c end =
    starts_word end c.args.text.now c.requires.starts (rw c.as_bytes.ensures.value at c.if-as_bytes-eq34.false) c.requires.some
    ∙ c.word.ensures.token (length c.args.text.now)
