use Rattle.std.proofs.Common.{◌≡◌, subst, sym, true, List}
use Rattle.std.specs.List.{list_all}
use Rattle.sb_statements.specs.PlacedStatements.{Placed}
use Rattle.sb_local.specs.Denials.{can_be_judged}
use Rattle.sb_local.proofs.Denied.{all_can_be_judged}
use Rattle.sb_local.proofs.denials.denials.Goals as goal

pub denials_in-requires-clause-judged : goal.denials_in-requires-clause-judged
denials_in-requires-clause-judged g c κs within =
    let policies = g.J.Judge.policies c.args.judge.now in
    let sound = c.placed_statements_are_sound.ensures c.args.script.now c.establish_sound.ensures.sound c.establish_sound.ensures.units in
    subst (λ (ps : List Placed). list_all (can_be_judged policies) ps ≡ true) (sym c.statements.ensures)
    (all_can_be_judged policies c.args.script.now c.requires.judge sound)
