use Rattle.std.proofs.Common.{rules, ◌≡◌, true, false}
use Rattle.sb_opcode.proofs.RuleLemmas.{lone_met, lone_missed, lone_shorter}
use Rattle.sb_opcode.proofs.walks.walk_first_rule.Goals as goal

pub returns-then-not-holds : goal.returns-then-not-holds
returns-then-not-holds c =
    let missed : c.in-Some.holds ≡ false = search rules in
    lone_missed c.args.args.now c.args.words.now c.loop-holds.rest.now c.in-Some.later.now c.in-Some.holds c.loop-holds.invariant c.in-Some.ensures missed

pub loop-holds-smaller : goal.loop-holds-smaller
loop-holds-smaller c =
    lone_shorter c.args.args.now c.loop-holds.rest.now c.in-Some.later.now c.in-Some.holds c.loop-holds.invariant.0 c.in-Some.ensures

pub loop-holds-preserved : goal.loop-holds-preserved
loop-holds-preserved c =
    let met : c.in-Some.holds ≡ true = search rules in
    lone_met c.args.args.now c.args.words.now c.loop-holds.rest.now c.in-Some.later.now c.in-Some.holds c.loop-holds.invariant c.in-Some.ensures met
