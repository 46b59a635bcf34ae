use Rattle.std.proofs.Common.{◌≡◌, ◌∙◌, ◌≢◌, ◌+◌, ◌-◌, false, arith}
use Rattle.std.proofs.lemmas.List.{get_or-set_other}
use Rattle.sb_rule.proofs.Rows.{unit_more}
use Rattle.sb_rule.proofs.matching.put_unit.Goals as goal

pub loop-at-preserved : goal.loop-at-preserved
loop-at-preserved c =
    let at = c.loop-at.at in
    let one : at ≡ at - 1 + 1 = omega arith in
    let kept = c.loop-at.invariant.kept in
    record {
      within = omega arith;
      after = kept (at - 1) (omega arith);
      kept = λ place low. let other : place ≢ at - 1 = omega arith in get_or-set_other c.loop-at.row (at - 1) place _ false other ∙ kept place (omega arith);
      made = λ units row.
          unit_more c.args.cells.now units c.args.row.now c.loop-at.row c.args.unit (at - 1) at _ c.loop-at.without_both _ one (omega arith) (omega arith)
          c.matches_from.ensures c.loop-at.invariant.after (kept (at - 1) (omega arith)) row (c.loop-at.invariant.made units row);
    }
