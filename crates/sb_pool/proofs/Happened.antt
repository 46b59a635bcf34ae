-- Histories that grow, and numbers of seats that are added up.
use Rattle.std.proofs.Common.{◌≡◌, ◌∙◌, ℕ, zero, suc, ◌+◌, ◌<◌, ◌≤◌, Bool, true, false, cond, List, [], ◌∷◌, ◌++◌, append_assoc, append-nil, length, set, replicate, refl, sym, ap, arith}
use Rattle.std.specs.Prelude.{nat_lt}
use Rattle.std.proofs.lemmas.Bool.Decides.{nat_tests}
use mathlib.Core.Option as raw
use lib.ListN.{get_elem?}
use Rattle.sb_pool.specs.declared.events.PoolEvent.{PoolEvent}
use Rattle.sb_pool.specs.declared.events.PoolEvent.TheVariants.{Put}
use Rattle.sb_pool.specs.declared.events.SeatHistory.{SeatHistory}
use Rattle.sb_pool.specs.Events.{weigh, put_weight, draw_weight, Begins, AllBegin, longer}
use Rattle.sb_pool.specs.Counting.{total}

pub weigh_append : (h : PoolEvent → ℕ) (a b : List PoolEvent) → weigh h (a ++ b) ≡ weigh h a + weigh h b
weigh_append h [] b = omega arith
weigh_append h (e ∷ a) b = let s = weigh_append h a b in omega arith

pub weigh_snoc : (h : PoolEvent → ℕ) (a : List PoolEvent) (e : PoolEvent) → weigh h (a ++ e ∷ []) ≡ weigh h a + h e
weigh_snoc h a e = let s = weigh_append h a (e ∷ []) in omega (arith, s)

pub puts_put : (n : ℕ) → weigh put_weight (replicate n (Put 0)) ≡ n
puts_put zero = refl
puts_put (suc n) = let s = puts_put n in omega (arith, s)

pub puts_drawn : (n : ℕ) → weigh draw_weight (replicate n (Put 0)) ≡ 0
puts_drawn zero = refl
puts_drawn (suc n) = let s = puts_drawn n in omega (arith, s)

pub begins_self : (a : List PoolEvent) → Begins a a
begins_self a = ([], sym (append-nil a))

pub begins_more : (a b more : List PoolEvent) → Begins a b → Begins a (b ++ more)
begins_more a b more h = (h.0 ++ more, ap (λ l. l ++ more) h.1 ∙ append_assoc a h.0 more)

pub begins_on : (a b c : List PoolEvent) → Begins a b → Begins b c → Begins a c
begins_on a b c h k = (h.0 ++ k.0, k.1 ∙ ap (λ l. l ++ k.0) h.1 ∙ append_assoc a h.0 k.0)

pub all_begin_on : (all : List (List PoolEvent)) (b c : List PoolEvent) → AllBegin all b → Begins b c → AllBegin all c
all_begin_on [] b c h k = tt
all_begin_on (a ∷ all) b c h k = (begins_on a b c h.0 k, all_begin_on all b c h.1 k)

pub all_begin_append : (all more : List (List PoolEvent)) (b : List PoolEvent) → AllBegin all b → AllBegin more b → AllBegin (all ++ more) b
all_begin_append [] more b h k = k
all_begin_append (a ∷ all) more b h k = (h.0, all_begin_append all more b h.1 k)

-- the longer of two beginnings is one
pub longer_begins : (a b c : List PoolEvent) → Begins a c → Begins b c → Begins (longer a b) c
longer_begins a b c h k = by (nat_lt (length a) (length b))
  where
    by : (q : Bool) → Begins (cond q b a) c
    by true = k
    by false = h

module _ (f : SeatHistory → ℕ) where
  pub total_set : (views : List SeatHistory) (i : ℕ) (v w : SeatHistory) → get_elem? views i ≡ raw.some v → total f (set views i w) + f v ≡ total f views + f w
  total_set [] i v w e = absurd (raw.some-ne-none v (sym e))
  total_set (u ∷ us) zero v w e = let s = ap f (raw.some-injective u v e) in omega arith
  total_set (u ∷ us) (suc i) v w e = let s = total_set us i v w e in omega arith

  pub total_append : (views more : List SeatHistory) → total f (views ++ more) ≡ total f views + total f more
  total_append [] more = omega arith
  total_append (u ∷ us) more = let s = total_append us more in omega arith

  -- what one seat has is among what all have
  pub total_at : (views : List SeatHistory) (i : ℕ) (v : SeatHistory) → get_elem? views i ≡ raw.some v → f v ≤ total f views
  total_at [] i v e = absurd (raw.some-ne-none v (sym e))
  total_at (u ∷ us) zero v e = let s = ap f (raw.some-injective u v e) in omega arith
  total_at (u ∷ us) (suc i) v e = let s = total_at us i v e in omega arith
