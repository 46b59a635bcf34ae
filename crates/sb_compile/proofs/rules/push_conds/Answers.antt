use Rattle.std.specs.List.{flat_map}
use Rattle.std.proofs.Common.{rules, ◌≡◌, ◌++◌, ◌∷◌}
use Rattle.sb_rule.specs.WellMade.{is_sensible}
use Rattle.sb_compile.specs.Compiling.{cond_code}
use Rattle.sb_compile.proofs.Steps.{left_passes, part_pushed}
use Rattle.sb_compile.proofs.rules.push_conds.Goals as goal

pub loop-cond-preserved : goal.loop-cond-preserved
loop-cond-preserved c =
    let first = c.in-Some.cond.now in
    let later = c.in-Some.later.now in
    let rest = c.loop-cond.rest.now in
    let cut : rest ≡ first ∷ later = search rules in
    let whole = c.args.code.now ++ flat_map cond_code c.args.conds.now in (
      part_pushed cond_code first later rest c.loop-cond.code c.push_cond.new.code whole cut c.in_ok-push_cond.ensures.ok c.loop-cond.invariant.0,
      search rules,
      left_passes (λ c. is_sensible c.test) first later rest cut c.loop-cond.invariant.2,
    )
