use Rattle.std.proofs.Common.{rules, ◌+◌, ◌≤◌, length}
use Rattle.sb_ruletext.proofs.Added.{placed_fits}
use Rattle.sb_ruletext.proofs.drafts.add_rules.Goals as goal

pub returns : goal.returns
returns c =
    let few : length c.in-Some.last.rules + length c.args.rules ≤ 256 = search rules in
    placed_fits c.args.line.now c.args.policies.now c.pop.new.self c.push.new.self c.in-Some.last c.args.rules c.append.new.self
    c.in-Some.ensures few c.in_ok-append.ensures.ok c.in_ok-push.ensures.ok
