-- The place of a seat in the count goes with what the seat knows of the works.
use Rattle.std.proofs.Common.{◌≡◌, ◌∙◌, ℕ, ◌+◌, ◌<◌, List, cond, [], ◌∷◌, ◌++◌, length, length-append, Option, Some, None, refl, sym, ap, arith}
use Rattle.std.specs.Option.{option_or}
use Rattle.std.specs.Prelude.{is_some}
use Rattle.sb_pool.specs.declared.events.SeatHistory.{SeatHistory}
use Rattle.sb_pool.specs.declared.seats.PoolSeat.{PoolSeat}
use Rattle.sb_pool.specs.Counting.{IsPlaceOf}
use Rattle.sb_pool.specs.Events.{IsDraw, IsLook, IsPut, joined_history}
use Rattle.sb_pool.specs.Pools.{PoolValue, seen, history_of, IsCounted, IsSeatOf}
use Rattle.sb_pool.specs.Views.{times, with_out, with_back, with_taken}
use Rattle.sb_pool.proofs.Counts.{length_removed}

module _ {W H : Type 0} (pool : PoolValue) (old new : PoolSeat W H) (was : IsCounted pool old) (place : IsPlaceOf pool.semaphore new.place) where
  pub counted_draw : (number : ℕ) → IsDraw (history_of old) (history_of new) → seen new ≡ with_out (seen old) number → IsCounted pool new
  counted_draw number h e =
      let out = was.out in
      record {
        place = place;
        number = ap (λ (z : SeatHistory). z.number) h.is ∙ was.number ∙ sym (ap (λ z. z.number) e);
        out = ap (λ (z : SeatHistory). z.out) h.is ∙ omega (arith, out) ∙ sym (ap (λ z. length z.out) e);
        seats = ap (λ (z : SeatHistory). z.seats) h.is ∙ was.seats ∙ sym (ap (λ z. length z.taken + 1) e);
        count = λ c f. was.count c (sym (ap (λ z. z.count) e) ∙ f);
      }

  pub counted_look : IsLook (history_of old) (history_of new) → seen new ≡ seen old → IsCounted pool new
  counted_look h e =
      record {
        place = place;
        number = ap (λ (z : SeatHistory). z.number) h.is ∙ was.number ∙ sym (ap (λ z. z.number) e);
        out = ap (λ (z : SeatHistory). z.out) h.is ∙ was.out ∙ sym (ap (λ z. length z.out) e);
        seats = ap (λ (z : SeatHistory). z.seats) h.is ∙ was.seats ∙ sym (ap (λ z. length z.taken + 1) e);
        count = λ c f. was.count c (sym (ap (λ z. z.count) e) ∙ f);
      }

  pub counted_put : (number : ℕ) → 0 < times number (seen old).out → IsPut (history_of old) (history_of new) → seen new ≡ with_back (seen old) number → IsCounted pool new
  counted_put number some h e =
      let out = was.out in
      let fewer = length_removed number (seen old).out some in
      record {
        place = place;
        number = ap (λ (z : SeatHistory). z.number) h.is ∙ was.number ∙ sym (ap (λ z. z.number) e);
        out = ap (λ (z : SeatHistory). z.out) h.is ∙ omega (arith, out, fewer) ∙ sym (ap (λ z. length z.out) e);
        seats = ap (λ (z : SeatHistory). z.seats) h.is ∙ was.seats ∙ sym (ap (λ z. length z.taken + 1) e);
        count = λ c f. was.count c (sym (ap (λ z. z.count) e) ∙ f);
      }

  -- a seat that put a work back in is one of the pool
  pub back_own : (number : ℕ) → IsSeatOf pool old → 0 < times number (seen old).out → new.pass.table_id ≡ pool.table → new.pass.me.1 ≡ [] → new.rooms ≡ old.rooms
      → IsPut (history_of old) (history_of new) → seen new ≡ with_back (seen old) number → IsSeatOf pool new
  back_own number own some table none rooms h e = (
    table,
    none,
    ap (λ z. z.live) e ∙ own.2,
    ap (λ z. length z.homes) e ∙ own.3,
    ap length rooms ∙ own.4 ∙ ap (λ z. cond (is_some z.count) pool.size 0) (sym e),
    counted_put number some h e,
  )

  pub counted_join : (other : PoolSeat W H) → IsCounted pool other → (seen other).out ≡ [] → history_of new ≡ joined_history (history_of old) (history_of other)
      → seen new ≡ with_taken (seen old) (seen other) → IsCounted pool new
  counted_join other o none h e =
      let out = was.out in
      let other_out = o.out in
      let no_out : length (seen other).out ≡ 0 = ap length none in
      let seats = was.seats in
      let other_seats = o.seats in
      let long = length-append (seen old).taken ((seen other).number ∷ (seen other).taken) in
      record {
        place = place;
        number = ap (λ (z : SeatHistory). z.number) h ∙ was.number ∙ sym (ap (λ z. z.number) e);
        out = ap (λ (z : SeatHistory). z.out) h ∙ omega (arith, out, other_out, no_out) ∙ sym (ap (λ z. length z.out) e);
        seats = ap (λ (z : SeatHistory). z.seats) h ∙ omega (arith, seats, other_seats, long) ∙ sym (ap (λ z. length z.taken + 1) e);
        count = λ c f. counts (seen old).count refl c (sym (ap (λ z. z.count) e) ∙ f);
      }
    where
      counts : (a : Option ℕ) → (seen old).count ≡ a → (c : ℕ) → option_or (seen old).count (seen other).count ≡ Some c → c ≡ pool.seats
      counts None f c g = o.count c (sym (ap (λ z. option_or z (seen other).count) f) ∙ g)
      counts (Some d) f c g = was.count c (f ∙ sym (ap (λ z. option_or z (seen other).count) f) ∙ g)

-- a seat of a pool is one at least
pub some_seat : {W H : Type 0} (pool : PoolValue) (seat : PoolSeat W H) → IsCounted pool seat → 0 < (history_of seat).seats
some_seat pool seat c = let s = c.seats in omega (arith, s)
