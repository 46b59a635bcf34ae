use Rattle.std.proofs.Common.{◌≡◌, ◌+◌, Some, length, set, sym, ap, ◌∙◌, subst, arith}
use Rattle.sb_pool.specs.Pools.{seen, IsGathering}
use Rattle.sb_pool.proofs.Gathering.{where_none, gather_empty, gather_inside, gather_more}
use Rattle.sb_pool.proofs.pool.gather.Goals as goal

-- the queue has a work while one is missing
pub unreachable-requires : goal.unreachable-requires
unreachable-requires g c =
    let none = where_none c.take.result c.in_default.is c.take.ensures.none in
    let held = none.1 in
    let few = gather_empty g.W.Numbered.number g.W.Numbered.home (seen c.args.seat.now).homes c.loop-work._work (seen c.loop-work.seat) c.loop-work.rooms held.0
    c.loop-work.invariant.1 held.1 held.2 in
    let size : c.len-work-end.result ≡ length c.args.rooms = c.len-work-end.ensures in
    let long = c.requires.rooms in
    let test = c.loop-work-test.true in
    omega arith

pub put-requires : goal.put-requires
put-requires g c =
    let inside = gather_inside g.W.Numbered.number g.W.Numbered.home (seen c.args.seat.now).homes c.loop-work._work (seen c.loop-work.seat) (seen c.take.new.self) c.loop-work.rooms
    c.in-Some.work c.loop-work.invariant.1 c.in-Some.ensures.drawn in
    let named : c.number.result ≡ g.W.Numbered.number c.in-Some.work = c.number.ensures in
    omega arith

pub loop-work-preserved : goal.loop-work-preserved
loop-work-preserved g c =
    let homes = (seen c.args.seat.now).homes in
    let more = gather_more g.W.Numbered.number g.W.Numbered.home homes c.loop-work._work (seen c.loop-work.seat) (seen c.take.new.self) c.loop-work.rooms
    c.in-Some.work c.loop-work.invariant.1 c.in-Some.ensures.drawn in
    let put : c.put.new.self ≡ set c.loop-work.rooms (g.W.Numbered.number c.in-Some.work) (Some c.in-Some.work) =
    c.put.ensures ∙ ap (λ n. set c.loop-work.rooms n (Some c.in-Some.work)) c.number.ensures in (
      c.take.ensures.own,
      subst (λ slots. IsGathering g.W.Numbered.number g.W.Numbered.home homes (c.loop-work._work + 1) (seen c.take.new.self) slots) (sym put) more,
      c.take.ensures.others.1 ∙ c.loop-work.invariant.2,
    )

-- all works are drawn
pub establish_all_out-requires-clause-all : goal.establish_all_out-requires-clause-all
establish_all_out-requires-clause-all g c =
    let size : c.len-work-end.result ≡ length c.args.rooms = c.len-work-end.ensures in
    let out = c.loop-work.invariant.1.out in
    let left = c.loop-work-test.false in
    let end = c.loop-work.auto._work-end in
    let long = c.requires.rooms in
    rw c.loop-work.invariant.1.same (omega (arith, size, out, left, end, long))

pub returns : goal.returns
returns g c =
    let gathered = c.loop-work.invariant.1 in
    record {
      home = (gathered.places, λ n below. gathered.placed n (c.establish_all_out.ensures.all n (rw gathered.same below)));
      place = c.establish_all_out.ensures.place ∙ c.loop-work.invariant.2;
    }
