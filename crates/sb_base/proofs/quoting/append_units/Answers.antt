use Rattle.std.proofs.Common.{◌≡◌, ◌∙◌, ◌++◌, ap, append_assoc, List, ℕ, ◌<◌, ◌+◌, take, length, get_or}
use Rattle.std.proofs.lemmas.Grind.{flat_map-append}
use Rattle.std.proofs.lemmas.List.{take_more, take_all, append-nil}
use Rattle.std.specs.List.{flat_map}
use Rattle.sb_base.specs.Quoting.{quoted_unit}
use Rattle.sb_base.proofs.Kept.{on_err, kept}
use Rattle.sb_base.proofs.quoting.append_units.Goals as goal

one_more : (units : List ℕ) (n : ℕ) → n < length units → flat_map quoted_unit (take n units) ++ quoted_unit (get_or units n 0) ≡ flat_map quoted_unit (take (n + 1) units)
one_more units n h = rw (take_more units n 0 h, flat_map-append, append-nil)

pub returns-in_err-append_unit-clause-err : goal.returns-in_err-append_unit-clause-err
returns-in_err-append_unit-clause-err c =
    on_err c.from_residual.result (kept c.args.out.now.len c.args.out.now.items (flat_map quoted_unit (take c.loop-unit.unit-index c.args.units.now)) c.append_unit.new.out.items c.args.out.now.ok.0 (c.in_err-append_unit.ensures.err ∙ c.loop-unit.invariant))

pub loop-unit-preserved : goal.loop-unit-preserved
loop-unit-preserved c =
    c.in_ok-append_unit.ensures.ok ∙ ap (λ o. o ++ quoted_unit (get_or c.args.units.now c.loop-unit.unit-index 0)) c.loop-unit.invariant
    ∙ rw append_assoc (ap (λ k. c.args.out.now.items ++ k) (one_more c.args.units.now c.loop-unit.unit-index c.loop-unit-test.true))

pub returns-clause-ok : goal.returns-clause-ok
returns-clause-ok c = rw (take_all c.loop-unit.unit-index c.args.units.now c.loop-unit-test.false) at c.loop-unit.invariant
