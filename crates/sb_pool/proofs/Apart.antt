-- A number that is out is nowhere else.
use Rattle.std.proofs.Common.{ℕ, length, arith}
use Rattle.std.specs.Prelude.{nat_lt}
use Rattle.sb_pool.specs.declared.protocol.PoolView.{PoolView}
use Rattle.sb_pool.specs.Laws.{IsOutOnce}
use Rattle.sb_pool.proofs.Counts.{times_in_at, times_in_two, at_most_one}

module _ {W H : Type 0} (number : W → ℕ) (home : W → H) where
  pub out_once : IsOutOnce number home
  out_once items views p v k r at_p out =
      let q = r.once k in
      let most = at_most_one (nat_lt k (length r.homes)) in
      let among = times_in_at (λ (z : PoolView H). z.out) k views p v at_p in (
        omega arith,
        omega arith,
        λ j w apart at_j.
            let two = times_in_two (λ (z : PoolView H). z.out) k views j p w v apart at_j at_p in
            omega arith,
      )
