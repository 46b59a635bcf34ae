-- Places in the count that are made one by one, of the first.
use Rattle.std.proofs.Common.{◌≡◌, ◌∙◌, ◌⊎◌, ℕ, zero, suc, ◌+◌, ◌-◌, ◌<◌, Some, List, [], ◌∷◌, ◌++◌, cond, eqb, length, set, replicate, refl, sym, ap, subst, ⊎_elim, arith}
use Rattle.std.specs.Prelude.{slice_get, unwrap_or, is_some}
use Rattle.std.proofs.lemmas.Bool.{false≢true}
use Rattle.atomic_table.specs.Seated.{TableId}
use Rattle.sb_pool.specs.declared.events.PoolEvent.{PoolEvent}
use Rattle.sb_pool.specs.declared.events.PoolEvent.TheVariants.{Put}
use Rattle.sb_pool.specs.declared.events.SeatHistory.{SeatHistory}
use Rattle.sb_pool.specs.declared.seats.PoolSeat.{PoolSeat}
use Rattle.sb_pool.specs.Counting.{IsPlaceOf}
use Rattle.sb_pool.specs.Events.{first_history, parted, newcomer_history, dealt_history}
use Rattle.sb_pool.specs.Pools.{PoolValue, seen, history_of, ArePlaced, AreFresh, IsCounted}
use Rattle.sb_pool.proofs.Gathering.{get_snoc, not_zero}
use Rattle.sb_pool.proofs.Places.{length_snoc}

-- the first seat, of which `left` seats may be made, and `made` were
abbrev front_history : ℕ → ℕ → ℕ → SeatHistory
front_history works left made = record (first_history works left) { made = made }

-- a seat that was made
abbrev later_history : ℕ → ℕ → SeatHistory
later_history works n = record { number = n; made = 0; seats = 1; out = 0; history = replicate works (Put 0); own = []; taken = [] }

pub dealt_first : (works many : ℕ) → first_history works many ≡ dealt_history works many 1 0
dealt_first works many = let e : many ≡ many + 1 - 1 = omega arith in λ i. front_history works (e i) 0

dealt_later : (works many made n : ℕ) → dealt_history works many made (suc n) ≡ later_history works (suc n)
dealt_later works many made n = ap (λ b. cond b (front_history works (many + 1 - made) (made - 1)) (later_history works (suc n))) (not_zero n)

module _ {W H : Type 0} (semaphore : TableId) (works many : ℕ) where
  abbrev IsAt : ℕ → ℕ → PoolSeat W H → Type 0
  IsAt made n seat = IsPlaceOf semaphore seat.place × (history_of seat ≡ dealt_history works many made n)

  -- of the one in front one more can be made
  pub front_seats : (seats : List (PoolSeat W H)) (front : PoolSeat W H) → ArePlaced semaphore works many seats → slice_get seats 0 ≡ Some front → length seats < many
      → 1 < (history_of front).seats
  front_seats seats front all at_front few =
      let e = ap (λ (z : SeatHistory). z.seats) (all 0 front at_front).1 in
      omega (arith, e, few)

  pub placed_more : (seats : List (PoolSeat W H)) (front after new : PoolSeat W H) → ArePlaced semaphore works many seats → slice_get seats 0 ≡ Some front
      → IsPlaceOf semaphore after.place → IsPlaceOf semaphore new.place → history_of after ≡ parted (history_of front) → history_of new ≡ newcomer_history (history_of front)
      → ArePlaced semaphore works many (set seats 0 after ++ new ∷ [])
  placed_more [] front after new all at_front a b c d n seat h = absurd (false≢true (ap is_some at_front))
  placed_more (x ∷ xs) front after new all at_front a b c d n seat h =
      ⊎_elim (old n)
      (λ (t : (n ≡ suc (length xs)) × (new ≡ seat)).
      subst (λ (z : ℕ × PoolSeat W H). IsAt (length (after ∷ (xs ++ new ∷ []))) z.0 z.1) (λ k. (sym t.0 k, t.1 k))
      (b, d ∙ ap newcomer_history first ∙ named ∙ sym (dealt_later works many (length (after ∷ (xs ++ new ∷ []))) (length xs))))
      (get_snoc (after ∷ xs) new n seat h)
    where
      first : history_of front ≡ dealt_history works many (length (x ∷ xs)) 0
      first = (all 0 front at_front).1

      grown : length (x ∷ xs) + 1 ≡ length (after ∷ (xs ++ new ∷ []))
      grown = let l = length_snoc xs new in omega (arith, l)

      named : newcomer_history (dealt_history works many (length (x ∷ xs)) 0) ≡ later_history works (suc (length xs))
      named = let e : suc (length xs) - 1 + 1 ≡ suc (length xs) = omega arith in ap (later_history works) e

      less : parted (dealt_history works many (length (x ∷ xs)) 0) ≡ dealt_history works many (length (after ∷ (xs ++ new ∷ []))) 0
      less =
          let e : many + 1 - suc (length xs) - 1 ≡ many + 1 - length (after ∷ (xs ++ new ∷ [])) = let g = grown in omega (arith, g) in
          let f : suc (length xs) - 1 + 1 ≡ length (after ∷ (xs ++ new ∷ [])) - 1 = let g = grown in omega (arith, g) in
          λ i. front_history works (e i) (f i)

      old : (m : ℕ) → slice_get (after ∷ xs) m ≡ Some seat → IsAt (length (after ∷ (xs ++ new ∷ []))) m seat
      old zero g =
          subst (λ (s : PoolSeat W H). IsAt (length (after ∷ (xs ++ new ∷ []))) 0 s) (ap (λ o. unwrap_or o after) g)
          (a, c ∙ ap parted first ∙ less)
      old (suc m) g =
          let k = all (suc m) seat g in
          (k.0, k.1 ∙ dealt_later works many (length (x ∷ xs)) m ∙ sym (dealt_later works many (length (after ∷ (xs ++ new ∷ []))) m))

-- once all are made each is one seat
module _ {W H : Type 0} (pool : PoolValue) (works : ℕ) (seats : List (PoolSeat W H)) (all : ArePlaced pool.semaphore works pool.seats seats) (long : length seats ≡ pool.seats) where
  pub placed_fresh : AreFresh works seats
  placed_fresh n seat h = (all n seat h).1 ∙ ap (λ m. dealt_history works m (length seats) n) (sym long)

  pub placed_counted : (n : ℕ) (seat : PoolSeat W H) → slice_get seats n ≡ Some seat → (seen seat).number ≡ n → (seen seat).out ≡ [] → (seen seat).taken ≡ []
      → ((c : ℕ) → (seen seat).count ≡ Some c → c ≡ length seats) → IsCounted pool seat
  placed_counted n seat h number out taken count =
      record {
        place = (all n seat h).0;
        number = ap (λ (z : SeatHistory). z.number) is ∙ numbered n ∙ sym number;
        out = ap (λ (z : SeatHistory). z.out) is ∙ none n ∙ sym (ap length out);
        seats = ap (λ (z : SeatHistory). z.seats) is ∙ one n ∙ sym (ap (λ l. length l + 1) taken);
        count = λ c f. count c f ∙ long;
      }
    where
      is : history_of seat ≡ dealt_history works (length seats) (length seats) n
      is = placed_fresh n seat h

      numbered : (m : ℕ) → (dealt_history works (length seats) (length seats) m).number ≡ m
      numbered zero = refl
      numbered (suc m) = ap (λ (z : SeatHistory). z.number) (dealt_later works (length seats) (length seats) m)

      none : (m : ℕ) → (dealt_history works (length seats) (length seats) m).out ≡ 0
      none zero = refl
      none (suc m) = ap (λ (z : SeatHistory). z.out) (dealt_later works (length seats) (length seats) m)

      one : (m : ℕ) → (dealt_history works (length seats) (length seats) m).seats ≡ 0 + 1
      one zero = omega arith
      one (suc m) = ap (λ (z : SeatHistory). z.seats) (dealt_later works (length seats) (length seats) m)
