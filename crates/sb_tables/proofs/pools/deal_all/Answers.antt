use Rattle.std.proofs.Common.{◌≡◌, ◌<◌, length, refl, subst, arith, rules}
use Rattle.std.proofs.lemmas.Option.{slice_get_read, slice_get_within}
use Rattle.sb_pool.specs.Pools.{IsSeatOf, seen}
use Rattle.sb_tables.specs.declared.pools.Dealt.{Dealt}
use Rattle.sb_tables.proofs.Dealing.{get_read}
use Rattle.sb_tables.proofs.pools.deal_all.Goals as goal

pub map_vec-requires-after_bounds : goal.map_vec-requires-after_bounds
map_vec-requires-after_bounds g c = λ lfts bounds i x l e. c.requires i x (slice_get_read c.args.seats.items (length c.args.seats.items) i x refl l e)

pub returns : goal.returns
returns g c =
    let all = c.in_ok-map_vec.field-0.items in
    let seats = c.args.seats.items in
    let len : length all ≡ length seats = search rules in (
      len,
      λ n d e.
          let low : n < length all = slice_get_within all n d e in
          let inside : n < length seats = omega (arith, low, len) in
          let one = (c.in_ok-map_vec.ensures.each n d inside).1 in
          let kept = subst (λ (r : Dealt). IsSeatOf c.args.pool.now r.seat × (seen r.seat ≡ seen one.job)) (get_read all n d d e) one.call.met in
          (one.job, slice_get_read seats (length seats) n one.job refl inside one.job_read, kept.0, kept.1),
    )
