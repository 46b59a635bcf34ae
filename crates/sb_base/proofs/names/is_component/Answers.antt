use Rattle.std.proofs.Common.{rules, tests, ◌≡◌, true}
use Rattle.std.proofs.lemmas.Iterator.{YieldsList-from_slice}
use Rattle.std.proofs.lemmas.Iterator.Search.{all_from_yields_List}
use Rattle.sb_base.specs.Names.{is_ordinary, ends_well}
use Rattle.sb_base.proofs.names.is_component.Goals as goal

pub returns-then-ends_well : goal.returns-then-ends_well
returns-then-ends_well c =
    let e = all_from_yields_List is_ordinary _ _ c.all.result c.all.ensures.ran (YieldsList-from_slice c.args.units.now cc) (λ x b q k. search (rules, tests)) in
    let w : true ≡ ends_well c.args.units.now = c.if-ends_well.ensures in
    rw (e, ← w)
