use Rattle.std.proofs.Common.{◌≡◌, ◌∙◌, ◌≢◌, ◌-◌, ◌+◌, ◌*◌, ◌%◌, ◌∷◌, [], ℕ, ap, sym, arith}
use Rattle.sb_cover.specs.Bits.{codes_of}
use Rattle.sb_cover.proofs.BitLemmas.{read_full, read_more}
use Rattle.sb_cover.proofs.bits.read.Goals as goal

pub returns : goal.returns
returns c = λ width word narrow is.
    let some : c.args.left ≢ 0 = omega arith in
    let state : c.in_ok-state-3.state ≡ (c.args.left - 1) ∷ c.in_ok-next.next.items = c.in_ok-state-3.ensures ∙ ap (λ l. (c.args.left - 1) ∷ l) c.deref.ensures.value in
    read_more c.args.comparisons.now width word c.args.left c.args.letter c.args.codes.now c.in_ok-next.next.items c.in_ok-state-3.state some
    (λ v e. c.in_ok-next.ensures v e ∙ ap (λ b. codes_of c.args.comparisons.now (c.args.left - 1) (v * 2 + b)) c.from.ensures) state is

pub returns-then-left-eq0 : goal.returns-then-left-eq0
returns-then-left-eq0 c = λ width word narrow is.
    read_full c.args.comparisons.now width word c.args.left c.args.letter c.args.codes.now c.in_ok-state.state c.if-left-eq0.true c.in_ok-state.ensures is
