-- A seat that has seen all cannot tell that no work was in while one was.
use Rattle.std.proofs.Common.{◌≡◌, ◌∙◌, ℕ, ◌+◌, ◌<◌, List, [], ◌∷◌, ◌++◌, get_or, set, sym, ap, arith}
use mathlib.Core.Option as raw
use lib.ListN.{get_elem?}
use Rattle.sb_pool.specs.declared.events.PoolEvent.{PoolEvent}
use Rattle.sb_pool.specs.declared.events.PoolEvent.TheVariants.{Look}
use Rattle.sb_pool.specs.declared.events.SeatHistory.{SeatHistory}
use Rattle.sb_pool.specs.Counting.{Counts, count_word, total}
use Rattle.sb_pool.specs.Events.{weigh, put_weight, draw_weight, IsLook}
use Rattle.sb_pool.proofs.Places.{set_here}
use Rattle.sb_pool.proofs.Happened.{weigh_append, weigh_snoc, total_set}

module _ (works seats : ℕ) (words after : List ℕ) (views : List SeatHistory) (r : Counts works seats words views) (id : ℕ) (v w : SeatHistory) (at_id : get_elem? views id ≡ raw.some v)
    (all : v.history ≡ r.events) (h : IsLook v w) (q : Counts works seats after (set views id w)) where
  same : (g : PoolEvent → ℕ) → weigh g h.before ≡ weigh g r.events
  same g =
      let began = (q.each id w (set_here views id w v at_id)).began in
      let a = ap (weigh g) began.1 in
      let b = weigh_append g w.history began.0 in
      let c = ap (λ (z : SeatHistory). weigh g z.history) h.is in
      let d = weigh_snoc g h.before (Look v.number) in
      let e = ap (weigh g) h.began.1 in
      let f = weigh_append g v.history h.began.0 in
      let k = ap (weigh g) all in
      let o = q.own g in
      let p = r.own g in
      let s = total_set (λ (z : SeatHistory). weigh g z.own) views id v w at_id in
      let t = ap (λ (z : SeatHistory). weigh g z.own) h.is in
      let u = weigh_snoc g v.own (Look v.number) in
      omega (arith, a, b, c, d, e, f, k, o, p, s, t, u)

  pub looked_none : get_or words count_word 0 ≡ 0
  looked_none =
      let p = same put_weight in
      let d = same draw_weight in
      let n = h.none in
      let c = r.counted in
      omega (arith, p, d, n, c)
