use Rattle.std.proofs.Common.{◌≡◌, ◌∙◌, ◌<◌, false, subst, arith, rules}
use Rattle.sb_core.specs.Drains.{is_settled, drained, drained_by}
use Rattle.sb_core.proofs.Beginning.{after_error, beginning, passed_more}
use Rattle.sb_core.proofs.Folding.{drained_next}
use Rattle.sb_core.proofs.drains.settle.Goals as goal

pub returns-in_err-make_pass-clause-err : goal.returns-in_err-make_pass-clause-err
returns-in_err-make_pass-clause-err g c =
    let unsettled : is_settled c.loop-left.world ≡ false = search rules in
    let e = c.in_err-make_pass.ensures.err in
    after_error c.from_residual.result (beginning c.args.world.now c.loop-left.world c.loop-left.invariant.1 unsettled e.0 c.make_pass.new.world e.1 e.2)

pub loop-left-preserved : goal.loop-left-preserved
loop-left-preserved g c =
    let some : 0 < c.loop-left.left = omega (arith, c.loop-left-test.true) in
    let unsettled : is_settled c.loop-left.world ≡ false = search rules in (
      drained_next c.loop-left.left c.loop-left.world c.make_pass.new.world some unsettled c.in_ok-make_pass.ensures.ok ∙ c.loop-left.invariant.0,
      passed_more c.args.world.now c.loop-left.world c.loop-left.invariant.1 unsettled c.make_pass.new.world c.in_ok-make_pass.ensures.ok,
      c.make_pass.ensures.setting ∙ c.loop-left.invariant.2,
    )

pub returns-after-loop-left-clause-ok : goal.returns-after-loop-left-clause-ok
returns-after-loop-left-clause-ok g c =
    let none : c.loop-left.left ≡ 0 = omega (arith, c.loop-left-test.false) in
    subst (λ n. drained_by n c.loop-left.world ≡ drained c.args.world.now) none c.loop-left.invariant.0
