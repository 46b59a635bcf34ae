use Rattle.std.proofs.Common.{rules, tests, eqb, ◌∙◌}
use Rattle.std.proofs.lemmas.Iterator.{YieldsList-from_slice, YieldsList-from_zip}
use Rattle.std.proofs.lemmas.Iterator.Search.{all_from_yields_List}
use Rattle.sb_base.specs.Wide.{folded}
use Rattle.sb_base.proofs.Folding.{pairs_alike}
use Rattle.sb_base.proofs.names.eq_ignore_ascii_case.Goals as goal

pub returns-then-a-b : goal.returns-then-a-b
returns-then-a-b c =
    let e = all_from_yields_List (λ p. eqb (folded p.0) (folded p.1)) c.all.new.self _ c.all.result c.all.ensures.ran (YieldsList-from_zip (YieldsList-from_slice c.args.a.now cc) (YieldsList-from_slice c.args.b.now cc)) (λ x b q k. search (rules, tests)) in
    e ∙ pairs_alike folded _ _ c.if-a-b.true
