-- Seats of a pool that are taken in one after another.
use Rattle.std.proofs.Common.{◌≡◌, ◌⊎◌, ℕ, zero, suc, ◌+◌, ◌<◌, Bool, true, false, cond, eqb, Option, Some, None, List, [], ◌∷◌, ◌++◌, length, refl, sym, ap, ◌∙◌, subst, inl, inr, arith}
use Rattle.std.specs.Prelude.{slice_get, slice_index_or}
use Rattle.std.specs.Option.{option_or, option_to_list}
use Rattle.std.proofs.lemmas.Bool.Decides.{nat_tests}
use Rattle.sb_pool.specs.declared.protocol.PoolView.{PoolView}
use Rattle.sb_pool.specs.declared.seats.PoolSeat.{PoolSeat}
use Rattle.sb_pool.specs.Pools.{PoolValue, seen, AreSeats, IsSeatOf}
use Rattle.sb_pool.specs.Views.{times, fresh_view, with_taken, IsLast}
use Rattle.sb_tables.specs.declared.pools.Dealt.{Dealt}
use Rattle.sb_tables.specs.declared.pools.Work.{Work}
use Rattle.sb_tables.specs.Pools.{AreAsBefore, AreInTurn, IsSeatAt, IsTaking}

-- the count that the seat at a place keeps
abbrev count_at : ℕ → ℕ → Option ℕ
count_at n count = cond (eqb n 0) (Some count) None

count_of_first : (n count : ℕ) → n ≡ 0 → count_at n count ≡ Some count
count_of_first n count e = subst (λ m. count_at m count ≡ Some count) (sym e) refl

count_of_later : (n count : ℕ) → 0 < n → count_at n count ≡ None
count_of_later n count l = by (eqb n 0) refl
  where
    by : (b : Bool) → eqb n 0 ≡ b → cond (eqb n 0) (Some count) None ≡ None
    by true e = absurd (grind (arith, nat_tests, e, l))
    by false e = subst (λ b. cond b (Some count) None ≡ None) (sym e) refl

times_snoc : (k x : ℕ) (xs : List ℕ) → times k (xs ++ x ∷ []) ≡ times k xs + cond (eqb x k) 1 0
times_snoc k x [] = omega arith
times_snoc k x (y ∷ xs) = let more = times_snoc k x xs in omega (arith, more)

same_once : (k : ℕ) → cond {A = ℕ} (eqb k k) 1 0 ≡ 1
same_once k = by (eqb k k) refl
  where
    by : (b : Bool) → eqb k k ≡ b → cond {A = ℕ} (eqb k k) 1 0 ≡ 1
    by true e = subst (λ b. cond {A = ℕ} b 1 0 ≡ 1) (sym e) refl
    by false e = absurd (grind (arith, nat_tests, e))

-- each number below n is in a list, and so is each below n + 1 once n was appended
each_more : (n : ℕ) (xs : List ℕ) → ((k : ℕ) → k < n → 0 < times k xs) → (k : ℕ) → k < n + 1 → 0 < times k (xs ++ n ∷ [])
each_more n xs each k l = by (eqb k n) refl
  where
    by : (b : Bool) → eqb k n ≡ b → 0 < times k (xs ++ n ∷ [])
    by true e =
        let same : k ≡ n = grind (arith, nat_tests, e) in
        let last : 0 < times n (xs ++ n ∷ []) = let s = times_snoc n n xs in let one = same_once n in omega (arith, s, one) in
        subst (λ z. 0 < times z (xs ++ n ∷ [])) (sym same) last
    by false e =
        let low : k < n = grind (arith, nat_tests, e, l) in
        let there = each k low in
        let s = times_snoc k n xs in
        omega (arith, s, there)

-- before it took in any
pub begin_taking : (pool : PoolValue) (last : Dealt) (others : List Dealt) → AreInTurn pool last others → IsTaking pool (length others) last.seat others
begin_taking pool last others h =
    record {
      homes = h.0;
      taken = 0;
      sized = omega arith;
      own = h.1.0;
      none = ap (λ (v : PoolView ℕ). v.out) h.1.1;
      number = ap (λ (v : PoolView ℕ). v.number) h.1.1;
      homes_are = ap (λ (v : PoolView ℕ). v.homes) h.1.1;
      count = λ o. ap (λ (v : PoolView ℕ). v.count) h.1.1 ∙ count_of_first (length others) (length others + 1) (at_zero o);
      absent = λ l e. ap (λ (v : PoolView ℕ). v.count) h.1.1 ∙ count_of_later (length others) (length others + 1) l;
      each = λ k l. absurd (omega (arith, l));
      more = λ n d e. subst (λ m. IsSeatAt pool h.0 (length others + 1) m d.seat) (plain n) (h.2 n d e);
    }
  where
    at_zero : (0 < 0) ⊎ (length others ≡ 0) → length others ≡ 0
    at_zero (inl l) = absurd (omega (arith, l))
    at_zero (inr e) = e

    plain : (n : ℕ) → n ≡ 0 + n
    plain n = omega arith

-- it takes in one more
pub more_taken : (pool : PoolValue) (many : ℕ) (seat : PoolSeat Work ℕ) (d : Dealt) (left : List Dealt) (seat' : PoolSeat Work ℕ) → IsTaking pool many seat (d ∷ left)
    → IsSeatOf pool seat' → seen seat' ≡ with_taken (seen seat) (seen d.seat) → IsTaking pool many seat' left
more_taken pool many seat d left seat' h own joined =
    record {
      homes = h.homes;
      taken = h.taken + 1;
      sized = let s = h.sized in omega (arith, s);
      own = own;
      none = ap (λ (v : PoolView ℕ). v.out) joined ∙ h.none;
      number = ap (λ (v : PoolView ℕ). v.number) joined ∙ h.number;
      homes_are = ap (λ (v : PoolView ℕ). v.homes) joined ∙ h.homes_are;
      count = λ o. ap (λ (v : PoolView ℕ). v.count) joined ∙ ap (λ (v : PoolView ℕ). option_or (seen seat).count v.count) first ∙ counted h.taken refl;
      absent = λ l e. absurd (omega (arith, e));
      each = λ k l. subst (λ xs. 0 < times k xs) (sym listed) (each_more h.taken (seen seat).taken h.each k l);
      more = λ n e q. subst (λ m. IsSeatAt pool h.homes (many + 1) m e.seat) (next n) (h.more (suc n) e q);
    }
  where
    first : seen d.seat ≡ fresh_view h.taken h.homes (count_at h.taken (many + 1))
    first = subst (λ m. seen d.seat ≡ fresh_view m h.homes (count_at m (many + 1))) (plain h.taken) (h.more 0 d refl).1
      where
        plain : (n : ℕ) → n + 0 ≡ n
        plain n = omega arith

    listed : (seen seat').taken ≡ (seen seat).taken ++ h.taken ∷ []
    listed = ap (λ (v : PoolView ℕ). v.taken) joined ∙ ap (λ (v : PoolView ℕ). (seen seat).taken ++ v.number ∷ v.taken) first

    some : 0 < many
    some = let s = h.sized in omega (arith, s)

    counted : (t : ℕ) → h.taken ≡ t → option_or (seen seat).count (count_at h.taken (many + 1)) ≡ Some (many + 1)
    counted zero e =
        subst (λ o. option_or o (count_at h.taken (many + 1)) ≡ Some (many + 1)) (sym (h.absent some e)) (count_of_first h.taken (many + 1) e)
    counted (suc t) e =
        let past : 0 < h.taken = omega (arith, e) in
        subst (λ o. option_or o (count_at h.taken (many + 1)) ≡ Some (many + 1)) (sym (h.count (inl past))) refl

    next : (n : ℕ) → h.taken + suc n ≡ h.taken + 1 + n
    next n = omega arith

-- it took in all
pub all_taken : (pool : PoolValue) (many : ℕ) (seat : PoolSeat Work ℕ) → IsTaking pool many seat [] → IsLast (seen seat)
all_taken pool many seat h = (many + 1, h.count (past many refl), λ k l. by k l (eqb k many) refl)
  where
    all : h.taken ≡ many
    all = let s = h.sized in omega (arith, s)

    past : (m : ℕ) → many ≡ m → (0 < h.taken) ⊎ (many ≡ 0)
    past zero e = inr e
    past (suc m) e = let a = all in inl (omega (arith, a, e))

    by : (k : ℕ) → k < many + 1 → (b : Bool) → eqb k many ≡ b → (k ≡ (seen seat).number) ⊎ (0 < times k (seen seat).taken)
    by k l true e = let same : k ≡ many = grind (arith, nat_tests, e) in inl (same ∙ sym h.number)
    by k l false e = let a = all in let low : k < many = grind (arith, nat_tests, e, l) in inr (h.each k (omega (arith, low, a)))

-- elements of lists
pub last_read : {A : Type 0} (xs front : List A) (o : Option A) (x : A) → xs ≡ front ++ option_to_list o → o ≡ Some x → slice_get xs (length front) ≡ Some x
last_read xs front o x e is = ap (λ l. slice_get l (length front)) (e ∙ ap (λ p. front ++ option_to_list p) is) ∙ at_last front x
  where
    at_last : {A : Type 0} (ys : List A) (y : A) → slice_get (ys ++ y ∷ []) (length ys) ≡ Some y
    at_last [] y = refl
    at_last (z ∷ ys) y = at_last ys y

pub get_front : {A : Type 0} (xs : List A) (y x : A) (n : ℕ) → slice_get xs n ≡ Some x → slice_get (xs ++ y ∷ []) n ≡ Some x
get_front [] y x n e = absurd (cc)
get_front (z ∷ xs) y x zero e = e
get_front (z ∷ xs) y x (suc n) e = get_front xs y x n e

pub get_read : {A : Type 0} (xs : List A) (n : ℕ) (x d : A) → slice_get xs n ≡ Some x → slice_index_or xs n d ≡ x
get_read [] n x d e = absurd (cc)
get_read (y ∷ xs) zero x d e = cc
get_read (y ∷ xs) (suc n) x d e = get_read xs n x d e

length_last : {A : Type 0} (xs : List A) (x : A) → length (xs ++ x ∷ []) ≡ length xs + 1
length_last [] x = refl
length_last (y ∷ xs) x = let more = length_last xs x in omega (arith, more)

-- the last seat and those before it, after works were dealt
pub in_turn : (pool : PoolValue) (homes : List ℕ) (seats : List (PoolSeat Work ℕ)) (all front : List Dealt) (o : Option Dealt) (last : Dealt) → AreSeats pool homes seats
    → AreAsBefore pool seats all → all ≡ front ++ option_to_list o → o ≡ Some last → AreInTurn pool last front
in_turn pool homes seats all front o last are before e is =
    (homes, seat_at (length front) last (last_read all front o last e is), λ n d h. seat_at n d (subst (λ l. slice_get l n ≡ Some d) (sym whole) (get_front front last d n h)))
  where
    whole : all ≡ front ++ last ∷ []
    whole = e ∙ ap (λ p. front ++ option_to_list p) is

    many : length seats ≡ length front + 1
    many = sym before.0 ∙ ap length whole ∙ length_last front last

    seat_at : (n : ℕ) (d : Dealt) → slice_get all n ≡ Some d → IsSeatAt pool homes (length front + 1) n d.seat
    seat_at n d h =
        let one = before.1 n d h in
        subst (λ c. IsSeatAt pool homes c n d.seat) many (one.2, one.3 ∙ (are n one.0 one.1).1)
