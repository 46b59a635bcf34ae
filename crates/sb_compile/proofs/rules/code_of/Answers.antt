use Rattle.std.proofs.Common.{rules, ◌≡◌, ◌∙◌, ◌++◌, ◌∷◌, ap, eqb, false, length, true, arith}
use Rattle.sb_call.specs.Tags.{number_of}
use Rattle.sb_rule.specs.WellMade.{is_well_made_rule}
use Rattle.sb_compile.specs.Compiling.{code_of}
use Rattle.sb_compile.proofs.Steps.{left_passes, rule_pushed, rule_skipped}
use Rattle.sb_compile.proofs.rules.code_of.Goals as goal

pub loop-rule-preserved-in_ok-push_rule : goal.loop-rule-preserved-in_ok-push_rule
loop-rule-preserved-in_ok-push_rule c =
    let first = c.in-Some.rule.now in
    let later = c.in-Some.later.now in
    let rest = c.loop-rule.rest.now in
    let cut : rest ≡ first ∷ later = search rules in
    let mine : eqb (number_of first.tag) (number_of c.args.tag) ≡ true = search rules in (
      rule_pushed c.args.tag first later rest c.loop-rule.code c.push_rule.new.code (code_of c.args.policy.now.rules c.args.tag) mine cut c.in_ok-push_rule.ensures.ok c.loop-rule.invariant.0,
      search rules,
      left_passes is_well_made_rule first later rest cut c.loop-rule.invariant.2,
    )

pub loop-rule-preserved : goal.loop-rule-preserved
loop-rule-preserved c =
    let first = c.in-Some.rule.now in
    let later = c.in-Some.later.now in
    let rest = c.loop-rule.rest.now in
    let cut : rest ≡ first ∷ later = search rules in
    let other : eqb (number_of first.tag) (number_of c.args.tag) ≡ false = search rules in
    let size : length rest ≡ length (first ∷ later) = ap length cut in (
      ap (λ ops. c.loop-rule.code ++ ops) (rule_skipped c.args.tag first later rest other cut) ∙ c.loop-rule.invariant.0,
      omega (arith, size, c.loop-rule.invariant.1),
      left_passes is_well_made_rule first later rest cut c.loop-rule.invariant.2,
    )
