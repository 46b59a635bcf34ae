-- Numbers of handles rise in a history.
use Rattle.std.proofs.Common.{◌≡◌, ◌<◌, ◌≤◌, ◌+◌, ℕ, Bool, true, false, refl, arith, List, [], ◌∷◌, nat_le}
use Rattle.std.proofs.lemmas.Bool.Decides.{nat_tests}
use Rattle.std.specs.Prelude.{◌&&◌, nat_lt}
use Rattle.std.specs.List.{AllByRecursion, list_all}
use Rattle.std.specs.List.Sorted.{IsStrictlySortedBy}
use Rattle.std.specs.Ordering.{nat_cmp}
use Rattle.std.specs.declared.cmp.Ordering.TheVariants.{Less}
use Rattle.sb_handles.specs.Histories.{Step, Granted, Closed, table_after, numbers_granted, NumbersRise, NumbersAreCounted, GrantedNeverFalls}
use Rattle.sb_handles.specs.Tables.{Table, with_handle, without_handle}

below : (x y : ℕ) → x < y → nat_cmp x y ≡ Less
below x y l = grind (arith, nat_tests, l)

-- all numbers of a history are above a number that was granted before
all_above : (x : ℕ) (table : Table) (steps : List Step) → x ≤ table.granted → AllByRecursion (λ n. nat_cmp x n ≡ Less) (numbers_granted table steps)
all_above x table [] l = tt
all_above x table (Granted target held ∷ steps) l =
    (below x (table.granted + 1) (omega (arith, l)), all_above x (with_handle table target held) steps (omega (arith, l)))
all_above x table (Closed target number ∷ steps) l = all_above x (without_handle table target number) steps l

pub numbers_rise : NumbersRise
unfolding IsStrictlySortedBy
numbers_rise table [] = tt
numbers_rise table (Granted target held ∷ steps) =
    let same : table.granted + 1 ≤ (with_handle table target held).granted = omega arith in
    (all_above (table.granted + 1) (with_handle table target held) steps same, numbers_rise (with_handle table target held) steps)
numbers_rise table (Closed target number ∷ steps) = numbers_rise (without_handle table target number) steps

pub granted_never_falls : GrantedNeverFalls
granted_never_falls table [] = omega arith
granted_never_falls table (Granted target held ∷ steps) =
    let later = granted_never_falls (with_handle table target held) steps in
    omega (arith, later)
granted_never_falls table (Closed target number ∷ steps) = granted_never_falls (without_handle table target number) steps

-- a wider range has all that a narrower has
wider : (low low' high : ℕ) (ns : List ℕ) → low ≤ low' → list_all (λ n. nat_lt low' n && nat_le n high) ns ≡ true
    → list_all (λ n. nat_lt low n && nat_le n high) ns ≡ true
wider low low' high [] l h = refl
wider low low' high (n ∷ ns) l h = by (nat_lt low' n) refl (nat_le n high) h (wider low low' high ns l)
  where
    by : (s : Bool) → s ≡ nat_lt low' n → (t : Bool) → ((s && t) && list_all (λ n. nat_lt low' n && nat_le n high) ns) ≡ true
        → (list_all (λ n. nat_lt low' n && nat_le n high) ns ≡ true → list_all (λ n. nat_lt low n && nat_le n high) ns ≡ true)
        → ((nat_lt low n && t) && list_all (λ n. nat_lt low n && nat_le n high) ns) ≡ true
    by true e true h again =
        let one : nat_lt low n ≡ true = grind (arith, nat_tests, e, l) in
        rw (one, again h) refl
    by true e false h again = absurd (cc)
    by false e t h again = absurd (cc)

pub numbers_are_counted : NumbersAreCounted
numbers_are_counted table [] = refl
numbers_are_counted table (Granted target held ∷ steps) =
    let more = with_handle table target held in
    let high = (table_after more steps).granted in
    let later = granted_never_falls more steps in
    let low : nat_lt table.granted (table.granted + 1) ≡ true = grind (arith, nat_tests) in
    let in_count : nat_le (table.granted + 1) high ≡ true = grind (arith, nat_tests, later) in
    let rest : list_all (λ n. nat_lt table.granted n && nat_le n high) (numbers_granted more steps) ≡ true =
    wider table.granted more.granted high (numbers_granted more steps) (omega arith) (numbers_are_counted more steps) in
    rw (low, in_count, rest) refl
numbers_are_counted table (Closed target number ∷ steps) = numbers_are_counted (without_handle table target number) steps
