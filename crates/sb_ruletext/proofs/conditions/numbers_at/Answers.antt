use Rattle.std.proofs.Common.{◌<◌, ◌≤◌, arith, codes, length, sym}
use Rattle.std.proofs.lemmas.Result.{err_from_is_err_and}
use Rattle.sb_ruletext.specs.Conditions.{number_at, numbers_at}
use Rattle.sb_ruletext.specs.declared.faults.PolicyLimit.TheVariants.{Numbers}
use Rattle.sb_ruletext.proofs.Joined.{joined_refused, joined_after, joined_ended, joined_over}
use Rattle.sb_ruletext.proofs.conditions.numbers_at.Goals as goal

pub returns-in_err-number_at : goal.returns-in_err-number_at
returns-in_err-number_at c =
    let p = err_from_is_err_and c.from_residual.result c.from_residual.ensures.1 in
    let few : length c.loop-numbers.numbers < 16 = omega (arith, c.len.ensures, c.loop-numbers-test.true) in
    let read = c.in_err-number_at.ensures in
    rw (p.1, p.2) (joined_refused Numbers 16 (codes "or") number_at c.loop-numbers.numbers c.loop-numbers.tokens c.number_at.new.tokens c.number_at.new.tokens
    (numbers_at c.args.tokens.now) c.in_err-number_at.field-0.0 few c.loop-numbers.invariant.1 read)

pub loop-numbers-preserved : goal.loop-numbers-preserved
loop-numbers-preserved c =
    let few : length c.loop-numbers.numbers < 16 = omega (arith, c.len.ensures, c.loop-numbers-test.true) in
    let read = c.in_ok-number_at.ensures in
    let pushed = c.in_ok-push.ensures.ok in
    let passed = c.if-not-pass_word.ensures in
    joined_after Numbers 16 (codes "or") number_at c.loop-numbers.numbers c.push.new.self c.loop-numbers.tokens c.number_at.new.tokens c.pass_word.new.self
    c.in_ok-number_at.field-0 (numbers_at c.args.tokens.now) few c.loop-numbers.invariant.1 read pushed (sym passed.begins) passed.rest

pub returns-then-not-pass_word : goal.returns-then-not-pass_word
returns-then-not-pass_word c =
    let few : length c.loop-numbers.numbers < 16 = omega (arith, c.len.ensures, c.loop-numbers-test.true) in
    let passed = c.if-not-pass_word.ensures in
    joined_ended Numbers 16 (codes "or") number_at c.loop-numbers.numbers c.push.new.self c.loop-numbers.tokens c.number_at.new.tokens
    c.pass_word.new.self c.in_ok-number_at.field-0 (numbers_at c.args.tokens.now) few c.loop-numbers.invariant.1 c.in_ok-number_at.ensures c.in_ok-push.ensures.ok
    (sym passed.begins) passed.rest

pub returns : goal.returns
returns c =
    let many : 16 ≤ length c.loop-numbers.numbers = omega (arith, c.len.ensures, c.loop-numbers-test.false) in
    joined_over Numbers 16 (codes "or") number_at c.loop-numbers.numbers c.loop-numbers.tokens c.loop-numbers.tokens (numbers_at c.args.tokens.now)
    c.excess.result c.fail.result many c.loop-numbers.invariant.1 c.excess.ensures c.fail.ensures
