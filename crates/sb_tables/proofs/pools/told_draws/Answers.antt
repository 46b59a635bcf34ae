use Rattle.std.proofs.Common.{subst}
use Rattle.std.specs.Prelude.{IfSome}
use Rattle.sb_tables.specs.Pools.{IsDue}
use Rattle.sb_tables.proofs.pools.told_draws.Goals as goal

-- the first work is still out after two more draws
pub hand_back-requires-clause-home : goal.hand_back-requires-clause-home
hand_back-requires-clause-home g c =
    let due : IsDue c.drawn.new.seat c.in-Some.number c.in-Some.work =
    subst (λ o. IfSome o (λ d. IsDue c.drawn.new.seat d.0 d.1)) c.in-Some.is c.in_ok-first.ensures.due in
    (c.drawn-3.ensures.keeps c.in-Some.number c.in-Some.work (c.drawn-2.ensures.keeps c.in-Some.number c.in-Some.work due)).2
