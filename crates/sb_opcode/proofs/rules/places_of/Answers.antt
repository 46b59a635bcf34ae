use Rattle.std.proofs.Common.{rules, ◌<◌, length, sym, subst}
use Rattle.sb_opcode.proofs.RuleLemmas.{IsSoFar, place_found}
use Rattle.sb_opcode.proofs.rules.places_of.Goals as goal

pub loop-rest-preserved : goal.loop-rest-preserved
loop-rest-preserved c =
    let words = c.args.words.now in
    let rest = c.loop-rest.rest.now in
    let later = c.after_rule-rest.result.now in
    let after = c.after_rule-rest.ensures in
    let some : 0 < length rest = search rules in
    subst (IsSoFar words later) (sym c.in_ok-push.ensures.items)
    (place_found words rest later c.loop-rest.places.items c.loop-rest.invariant some after.packed after.later after.suffix)
