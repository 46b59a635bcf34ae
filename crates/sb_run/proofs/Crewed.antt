-- Seats of the pool after targets were served with them.
use Rattle.std.proofs.Common.{◌≡◌, refl, sym, subst, ap, ◌∙◌, ℕ, zero, suc, ◌+◌, ◌==◌, List, [], ◌∷◌, ◌++◌, length, length-append, Option, None, Some, inl, inr, ◌⊎◌, cond, is_some, slice_get}
use Rattle.std.specs.List.{AllZip}
use Rattle.sb_pool.specs.Pools.{AreSeats, IsSeatOf, PoolValue, seen}
use Rattle.sb_pool.specs.Views.{fresh_view}
use Rattle.sb_pool.specs.declared.protocol.PoolView.{PoolView}
use Rattle.sb_shared.specs.Seats.{WorkerSeatValue}
use Rattle.sb_run.specs.Servers.{IsSameServer, ServerAt}
use Rattle.sb_run.proofs.Pooled.{get_front, get_last}

still_of : (pool : PoolValue) (s t : ServerAt) → IsSeatOf pool s → IsSameServer s t → IsSeatOf pool t
still_of pool s t own same = (
  same.table ∙ own.0,
  same.slots ∙ own.1,
  ap (λ (v : PoolView WorkerSeatValue). v.live) same.known ∙ own.2,
  ap (λ (v : PoolView WorkerSeatValue). length v.homes) same.known ∙ own.3,
  same.rooms ∙ (own.4 ∙ ap (λ (v : PoolView WorkerSeatValue). cond (is_some v.count) pool.size 0) (sym same.known)),
  record {
    place = (same.place.table ∙ own.5.place.0, same.place.slots ∙ own.5.place.1);
    number = same.place.number ∙ own.5.number ∙ ap (λ (v : PoolView WorkerSeatValue). v.number) (sym same.known);
    out = same.place.out ∙ own.5.out ∙ ap (λ (v : PoolView WorkerSeatValue). length v.out) (sym same.known);
    seats = same.place.seats ∙ own.5.seats ∙ ap (λ (v : PoolView WorkerSeatValue). length v.taken + 1) (sym same.known);
    count = λ c e. own.5.count c (sym (ap (λ (v : PoolView WorkerSeatValue). v.count) same.known) ∙ e);
  },
)

-- the pair at a place
pair_at : {A B : Type 0} (P : A → B → Type 0) (xs : List A) (ys : List B) (i : ℕ) (y : B) → AllZip P xs ys → slice_get ys i ≡ Some y → (x : A) × (slice_get xs i ≡ Some x) × P x y
pair_at P [] [] i y all at = absurd (cc)
pair_at P [] (z ∷ ys) i y all at = absurd all
pair_at P (w ∷ xs) [] i y all at = absurd all
pair_at P (w ∷ xs) (z ∷ ys) zero y all at = let same : z ≡ y = cc in (w, refl, subst (P w) same all.0)
pair_at P (w ∷ xs) (z ∷ ys) (suc i) y all at = pair_at P xs ys i y all.1 at

pub pairs_length : {A B : Type 0} (P : A → B → Type 0) (xs : List A) (ys : List B) → AllZip P xs ys → length ys ≡ length xs
pairs_length P [] [] all = refl
pairs_length P [] (z ∷ ys) all = absurd all
pairs_length P (w ∷ xs) [] all = absurd all
pairs_length P (w ∷ xs) (z ∷ ys) all = ap suc (pairs_length P xs ys all.1)

-- an element of a list with one more at its end
front_or_last : {X : Type 0} (xs : List X) (y : X) (n : ℕ) (z : X) → slice_get (xs ++ y ∷ []) n ≡ Some z → (slice_get xs n ≡ Some z) ⊎ ((slice_get (xs ++ y ∷ []) n ≡ Some z) × (n ≡ length xs))
front_or_last [] y zero z e = inr (e, refl)
front_or_last [] y (suc n) z e = absurd (cc)
front_or_last (x ∷ xs) y zero z e = inl e
front_or_last (x ∷ xs) y (suc n) z e = by_rest (front_or_last xs y n z e)
  where
    by_rest : (slice_get xs n ≡ Some z) ⊎ ((slice_get (xs ++ y ∷ []) n ≡ Some z) × (n ≡ length xs))
        → (slice_get xs n ≡ Some z) ⊎ ((slice_get (xs ++ y ∷ []) n ≡ Some z) × (suc n ≡ suc (length xs)))
    by_rest (inl a) = inl a
    by_rest (inr b) = inr (b.0, ap suc b.1)

-- they can still come together
pub still_seats : (pool : PoolValue) (homes : List WorkerSeatValue) (servers back : List ServerAt) (last : ServerAt) → AreSeats pool homes (servers ++ last ∷ []) → AllZip IsSameServer servers back
    → AreSeats pool homes (back ++ last ∷ [])
still_seats pool homes servers back last seats all n s e = by_place (front_or_last back last n s e)
  where
    long : length (servers ++ last ∷ []) ≡ length (back ++ last ∷ [])
    long = length-append servers (last ∷ []) ∙ ap (λ k. k + 1) (sym (pairs_length IsSameServer servers back all)) ∙ sym (length-append back (last ∷ []))

    by_place : (slice_get back n ≡ Some s) ⊎ ((slice_get (back ++ last ∷ []) n ≡ Some s) × (n ≡ length back))
        → IsSeatOf pool s × (seen s ≡ fresh_view n homes (cond (n == 0) (Some (length (back ++ last ∷ []))) None))
    by_place (inl at) =
        let pair = pair_at IsSameServer servers back n s all at in
        let was = seats n pair.0 (get_front servers (last ∷ []) n pair.0 pair.1) in
        (still_of pool pair.0 s was.0 pair.2, pair.2.known ∙ was.1 ∙ ap (λ k. fresh_view n homes (cond (n == 0) (Some k) None)) long)
    by_place (inr at) =
        let place : n ≡ length servers = at.1 ∙ pairs_length IsSameServer servers back all in
        let same : last ≡ s = some_is (sym (get_last back last) ∙ ap (λ k. slice_get (back ++ last ∷ []) k) (sym at.1) ∙ at.0) in
        let was = seats n last (ap (λ k. slice_get (servers ++ last ∷ []) k) place ∙ get_last servers last) in
        subst (λ (z : ServerAt). IsSeatOf pool z × (seen z ≡ fresh_view n homes (cond (n == 0) (Some (length (back ++ last ∷ []))) None))) same
        (was.0, was.1 ∙ ap (λ k. fresh_view n homes (cond (n == 0) (Some k) None)) long)
      where
        some_is : ◌≡◌ {A = Option ServerAt} (Some last) (Some s) → last ≡ s
        some_is e = cc

-- one pair more
pub zip_more : {A B : Type 0} (P : A → B → Type 0) (xs : List A) (ys : List B) (x : A) (y : B) → AllZip P xs ys → P x y → AllZip P (xs ++ x ∷ []) (ys ++ y ∷ [])
zip_more P [] [] x y all one = (one, tt)
zip_more P [] (z ∷ ys) x y all one = absurd all
zip_more P (w ∷ xs) [] x y all one = absurd all
zip_more P (w ∷ xs) (z ∷ ys) x y all one = (all.0, zip_more P xs ys x y all.1 one)
