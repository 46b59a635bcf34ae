use Rattle.std.proofs.Common.{◌<◌, ◌≤◌, arith, codes, length, sym}
use Rattle.std.proofs.lemmas.Result.{err_from_is_err_and}
use Rattle.sb_ruletext.specs.Conditions.{condition_at, conditions_at}
use Rattle.sb_ruletext.specs.declared.faults.PolicyLimit.TheVariants.{Conditions}
use Rattle.sb_ruletext.proofs.Joined.{joined_refused, joined_after, joined_ended, joined_over}
use Rattle.sb_ruletext.proofs.conditions.conditions_at.Goals as goal

pub returns-in_err-condition_at : goal.returns-in_err-condition_at
returns-in_err-condition_at c =
    let p = err_from_is_err_and c.from_residual.result c.from_residual.ensures.1 in
    let few : length c.loop-alloc.conds < 8 = omega (arith, c.len.ensures, c.loop-alloc-test.true) in
    let read = c.in_err-condition_at.ensures in
    rw (p.1, p.2) (joined_refused Conditions 8 (codes "and") (condition_at c.args.tag) c.loop-alloc.conds c.loop-alloc.tokens c.condition_at.new.tokens
    c.condition_at.new.tokens (conditions_at c.args.tag c.args.tokens.now) c.in_err-condition_at.field-0.0 few c.loop-alloc.invariant.1 read)

pub loop-alloc-preserved : goal.loop-alloc-preserved
loop-alloc-preserved c =
    let few : length c.loop-alloc.conds < 8 = omega (arith, c.len.ensures, c.loop-alloc-test.true) in
    let read = c.in_ok-condition_at.ensures in
    let pushed = c.in_ok-push.ensures.ok in
    let passed = c.if-not-pass_word.ensures in
    joined_after Conditions 8 (codes "and") (condition_at c.args.tag) c.loop-alloc.conds c.push.new.self c.loop-alloc.tokens c.condition_at.new.tokens
    c.pass_word.new.self c.in_ok-condition_at.field-0 (conditions_at c.args.tag c.args.tokens.now) few c.loop-alloc.invariant.1 read pushed
    (sym passed.begins) passed.rest

pub returns-then-not-pass_word : goal.returns-then-not-pass_word
returns-then-not-pass_word c =
    let few : length c.loop-alloc.conds < 8 = omega (arith, c.len.ensures, c.loop-alloc-test.true) in
    let passed = c.if-not-pass_word.ensures in
    joined_ended Conditions 8 (codes "and") (condition_at c.args.tag) c.loop-alloc.conds c.push.new.self c.loop-alloc.tokens c.condition_at.new.tokens
    c.pass_word.new.self c.in_ok-condition_at.field-0 (conditions_at c.args.tag c.args.tokens.now) few c.loop-alloc.invariant.1 c.in_ok-condition_at.ensures c.in_ok-push.ensures.ok
    (sym passed.begins) passed.rest

pub returns : goal.returns
returns c =
    let many : 8 ≤ length c.loop-alloc.conds = omega (arith, c.len.ensures, c.loop-alloc-test.false) in
    joined_over Conditions 8 (codes "and") (condition_at c.args.tag) c.loop-alloc.conds c.loop-alloc.tokens c.loop-alloc.tokens (conditions_at c.args.tag c.args.tokens.now)
    c.excess.result c.fail.result many c.loop-alloc.invariant.1 c.excess.ensures c.fail.ensures
