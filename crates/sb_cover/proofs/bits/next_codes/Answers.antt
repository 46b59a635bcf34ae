use Rattle.std.proofs.Common.{◌∙◌, ◌+◌, ◌*◌, ap, sym}
use Rattle.std.proofs.lemmas.List.{take_all}
use Rattle.sb_cover.specs.Bits.{codes_of}
use Rattle.sb_cover.proofs.BitLemmas.{codes_more}
use Rattle.sb_cover.proofs.bits.next_codes.Goals as goal

pub loop-place-preserved : goal.loop-place-preserved
loop-place-preserved c = λ v are.
    c.in_ok-push.ensures.items
    ∙ codes_more c.args.comparisons.now c.args.codes.now c.loop-place.next.items c.args.left c.args.bit v c.loop-place.place c.next_code.result c.loop-place-test.true (c.loop-place.invariant v)
    (λ e. c.next_code.ensures v (c.code_at.ensures ∙ e)) are

pub returns : goal.returns
returns c = λ v are.
    c.loop-place.invariant v are ∙ ap (λ l. codes_of l c.args.left (v * 2 + c.args.bit)) (take_all c.loop-place.place c.args.comparisons.now c.loop-place-test.false)
