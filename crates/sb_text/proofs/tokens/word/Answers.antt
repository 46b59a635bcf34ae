use Rattle.std.proofs.Common.{arith, ◌∙◌, sym, get_or}
use Rattle.sb_text.proofs.Scans.{word_on, word_quoted, word_stops, word_last, no_quote_at, stops_low}
use Rattle.sb_text.proofs.tokens.word.Goals as goal
use Rattle.sb_text.proofs.tokens.word.Goals.{then-loop-n-test+else-is_in_word, else-loop-n-test}

pub loop-n-preserved : goal.loop-n-preserved
loop-n-preserved c =
    let e = c.as_bytes-bytes.ensures.value in (
      omega arith,
      λ place. word_on place c.args.text.now c.loop-n.n _ (c.loop-n.invariant.1 place) (rw e at c.loop-n-test.true) (rw e at (sym c.is_in_word.ensures ∙ c.if-is_in_word.true)),
    )

pub returns-then-is_quote_at-clause-token : goal.returns-then-is_quote_at-clause-token
returns-then-is_quote_at-clause-token c place =
    let e = c.as_bytes-bytes.ensures.value in
    word_quoted place c.args.text.now c.loop-n.n _ (c.loop-n.invariant.1 place) (rw e at (sym c.is_quote_at.ensures ∙ c.if-is_quote_at.true))

pub range_from-requires : goal.range_from-requires
range_from-requires c h = (
  c.loop-n.invariant.0,
  elim c.loop-n-test.branch [
    | then-loop-n-test+else-is_in_word w ↦ λ i k. absurd (omega (arith, k, stops_low (get_or c.args.text.now c.loop-n.n 0) (rw c.as_bytes-bytes.ensures.value at (sym w.is_in_word.ensures ∙ w.if-is_in_word.false))))
    | else-loop-n-test w ↦ λ i k. absurd (omega (arith, i, rw c.as_bytes-bytes.ensures.value at w.loop-n-test.false))
  ],
)

pub returns-clause-token : goal.returns-clause-token
returns-clause-token c place =
    let e = c.as_bytes-bytes.ensures.value in
    rw (e, c.range_from.ensures.value)
    (elim c.loop-n-test.branch [
      | then-loop-n-test+else-is_in_word w ↦
          word_stops place c.args.text.now c.loop-n.n _ (c.loop-n.invariant.1 place) (rw e at w.loop-n-test.true) (rw e at (sym w.is_in_word.ensures ∙ w.if-is_in_word.false))
          (no_quote_at c.args.text.now c.loop-n.n (rw e at w.loop-n-test.true) (rw e at (sym c.is_quote_at.ensures ∙ c.if-is_quote_at.false)))
      | else-loop-n-test w ↦ word_last place c.args.text.now c.loop-n.n _ (c.loop-n.invariant.1 place) (rw e at w.loop-n-test.false)
    ])
