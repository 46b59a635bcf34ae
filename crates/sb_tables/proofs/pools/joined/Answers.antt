use Rattle.std.proofs.Common.{◌≡◌, ◌∷◌, length, refl, sym, subst, ap, rules}
use Rattle.std.specs.Vec.Iter.{into_iter_items}
use Rattle.sb_tables.specs.Pools.{IsTaking}
use Rattle.sb_tables.proofs.Dealing.{begin_taking, more_taken}
use Rattle.sb_tables.proofs.pools.joined.Goals as goal

pub loop-other-init : goal.loop-other-init
loop-other-init c =
    let others = c.args.others.items in
    let same : into_iter_items c.into_iter-other-iterator.result ≡ others = search rules in
    subst (λ l. IsTaking c.args.pool.now (length others) c.args.last.seat l) (sym same) (begin_taking c.args.pool.now c.args.last others c.requires)

pub join-requires-clause-other : goal.join-requires-clause-other
join-requires-clause-other c =
    let listed : into_iter_items c.loop-other.other-iterator ≡ c.in-Some.other ∷ into_iter_items c.next.new.self = search rules in
    let h = subst (λ l. IsTaking c.args.pool.now (length c.args.others.items) c.loop-other.seat l) listed c.loop-other.invariant in
    (h.more 0 c.in-Some.other refl).0

pub join-requires-clause-none : goal.join-requires-clause-none
join-requires-clause-none c =
    let listed : into_iter_items c.loop-other.other-iterator ≡ c.in-Some.other ∷ into_iter_items c.next.new.self = search rules in
    let h = subst (λ l. IsTaking c.args.pool.now (length c.args.others.items) c.loop-other.seat l) listed c.loop-other.invariant in
    ap (λ v. v.out) (h.more 0 c.in-Some.other refl).1

pub loop-other-preserved : goal.loop-other-preserved
loop-other-preserved c =
    let listed : into_iter_items c.loop-other.other-iterator ≡ c.in-Some.other ∷ into_iter_items c.next.new.self = search rules in
    let h = subst (λ l. IsTaking c.args.pool.now (length c.args.others.items) c.loop-other.seat l) listed c.loop-other.invariant in
    more_taken c.args.pool.now (length c.args.others.items) c.loop-other.seat c.in-Some.other (into_iter_items c.next.new.self) c.join.new.self h c.join.ensures.own c.join.ensures.taken
