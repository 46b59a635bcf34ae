use Rattle.std.proofs.Common.{arith, ap, ◌∙◌, ◌≡◌, sym, length, length-drop, ◌+◌, ◌-◌}
use Rattle.sb_text.proofs.Scans.{quote_more, quote_ends, quote_bad, quote_open}
use Rattle.sb_text.proofs.tokens.quoted.Goals as goal
use Rattle.sb_text.proofs.tokens.quoted.Goals.{then-loop-n-test+else-bytes-n-ge32, else-loop-n-test}

pub loop-n-preserved : goal.loop-n-preserved
loop-n-preserved c =
    let e = c.as_bytes-bytes.ensures.value in (
      omega arith,
      λ place. quote_more place c.args.text.now c.loop-n.n _ (c.loop-n.invariant.1 place) (rw e at c.loop-n-test.true) (rw e at c.if-bytes-n-eq34.false) (rw e at c.if-bytes-n-ge32.true),
    )

pub returns-then-bytes-n-eq34-clause-token : goal.returns-then-bytes-n-eq34-clause-token
returns-then-bytes-n-eq34-clause-token c place =
    let e = c.as_bytes-bytes.ensures.value in
    let z : c.loop-n.n - 0 ≡ c.loop-n.n = omega arith in
    sym (quote_ends place c.args.text.now c.loop-n.n _ (c.loop-n.invariant.1 place) (rw e at c.loop-n-test.true) (rw e at c.if-bytes-n-eq34.true))
    ∙ rw (c.range.ensures.value, z, c.after_ascii.ensures) at (c.closed.ensures.token place)

pub returns-then-bytes-n-eq34-clause-shorter : goal.returns-then-bytes-n-eq34-clause-shorter
returns-then-bytes-n-eq34-clause-shorter c = omega (arith, length-drop (c.loop-n.n + 1) c.args.text.now, ap length c.after_ascii.ensures, c.closed.ensures.shorter)

pub returns-clause-token : goal.returns-clause-token
returns-clause-token c place =
    let e = c.as_bytes-bytes.ensures.value in
    elim c.loop-n-test.branch [
      | then-loop-n-test+else-bytes-n-ge32 w ↦ quote_bad place c.args.text.now c.loop-n.n _ (c.loop-n.invariant.1 place) (rw e at w.loop-n-test.true) (rw e at w.if-bytes-n-ge32.false)
      | else-loop-n-test w ↦ quote_open place c.args.text.now c.loop-n.n _ (c.loop-n.invariant.1 place) (rw e at w.loop-n-test.false)
    ]
