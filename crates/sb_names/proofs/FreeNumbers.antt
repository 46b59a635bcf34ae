-- A number that is taken under a hash is that of an entry, so that one is free.
use Rattle.std.proofs.Common.{◌≡◌, ◌≤◌, ◌<◌, ◌+◌, ◌^◌, ◌==◌, ℕ, Bool, true, false, cond, suc, refl, sym, arith, List, [], ◌∷◌, nat_le, nat_lt, length}
use Rattle.std.proofs.lemmas.Bool.{false≢true}
use Rattle.std.proofs.lemmas.Bool.Decides.{nat_tests}
use Rattle.std.specs.Prelude.{is_some, Some, ◌&&◌}
use Rattle.std.specs.BTreeMap.{is_at}
use Rattle.std.specs.Map.{lookup}
use Rattle.sb_base.specs.Orders.{by_pair}
use Rattle.sb_names.proofs.IndexLemmas.{same_pair}

-- a place is under a hash, with a number from one on and below another
abbrev pub is_taken : ℕ → ℕ → ℕ → ℕ × ℕ → Bool
is_taken hash from to q = hash == q.0 && (nat_le from q.1 && nat_lt q.1 to)

step : (a b : Bool) (m n : ℕ) → (a ≡ true → b ≡ true) → m ≤ n → cond a 1 0 + m ≤ cond b 1 0 + n
step true true m n f h = omega (arith, h)
step true false m n f h = absurd (false≢true (f refl))
step false true m n f h = omega (arith, h)
step false false m n f h = omega (arith, h)

step_more : (a b : Bool) (m n : ℕ) → (a ≡ true → b ≡ true) → m + 1 ≤ n → cond a 1 0 + m + 1 ≤ cond b 1 0 + n
step_more true true m n f h = omega (arith, h)
step_more true false m n f h = absurd (false≢true (f refl))
step_more false true m n f h = omega (arith, h)
step_more false false m n f h = omega (arith, h)

step_here : (a b : Bool) (m n : ℕ) → a ≡ false → b ≡ true → m ≤ n → cond a 1 0 + m + 1 ≤ cond b 1 0 + n
step_here false true m n ea eb h = omega (arith, h)
step_here true b m n ea eb h = absurd (false≢true (sym ea))
step_here false false m n ea eb h = absurd (false≢true eb)

taken_still : (hash from to : ℕ) (q : ℕ × ℕ) → is_taken hash from to q ≡ true → is_taken hash from (to + 1) q ≡ true
taken_still hash from to q h = grind (arith, nat_tests, h)

module _ {X : Type 0} (hash from : ℕ) where
  abbrev pub count_taken : ℕ → List ((ℕ × ℕ) × X) → ℕ
  count_taken to [] = 0
  count_taken to (e ∷ es) = cond (is_taken hash from to e.0) 1 0 + count_taken to es

  few : (to : ℕ) (es : List ((ℕ × ℕ) × X)) → count_taken to es ≤ length es
  few to [] = omega arith
  few to (e ∷ es) = by (is_taken hash from to e.0) (few to es)
    where
      by : (b : Bool) → count_taken to es ≤ length es → cond b 1 0 + count_taken to es ≤ suc (length es)
      by true i = omega (arith, i)
      by false i = omega (arith, i)

  grows : (to : ℕ) (es : List ((ℕ × ℕ) × X)) → count_taken to es ≤ count_taken (to + 1) es
  grows to [] = omega arith
  grows to (e ∷ es) = step _ _ _ _ (taken_still hash from to e.0) (grows to es)

  -- a number that is taken is one more
  one_more : (to : ℕ) → from ≤ to → (es : List ((ℕ × ℕ) × X)) → is_some (lookup (is_at (by_pair (hash, to))) es) ≡ true
      → count_taken to es + 1 ≤ count_taken (to + 1) es
  one_more to le [] there = absurd (false≢true there)
  one_more to le (e ∷ es) there = by (is_at (by_pair (hash, to)) e.0) (same_pair hash to e.0.0 e.0.1) there (one_more to le es)
    where
      by : (s : Bool) → s ≡ (hash == e.0.0 && to == e.0.1) → is_some (cond s (Some e.1) (lookup (is_at (by_pair (hash, to))) es)) ≡ true
          → (is_some (lookup (is_at (by_pair (hash, to))) es) ≡ true → count_taken to es + 1 ≤ count_taken (to + 1) es)
          → count_taken to (e ∷ es) + 1 ≤ count_taken (to + 1) (e ∷ es)
      by true same here again =
          let before : is_taken hash from to e.0 ≡ false = grind (arith, nat_tests, same) in
          let after : is_taken hash from (to + 1) e.0 ≡ true = grind (arith, nat_tests, same, le) in
          step_here _ _ _ _ before after (grows to es)
      by false same here again = step_more _ _ _ _ (taken_still hash from to e.0) (again here)

  -- from the count of entries on, no more numbers are taken than there are entries
  abbrev pub IsReached : ℕ → List ((ℕ × ℕ) × X) → Type 0
  IsReached number es = (from ≤ number) × (number ≤ from + count_taken number es)

  pub next_reached : (number : ℕ) (es : List ((ℕ × ℕ) × X)) → IsReached number es → is_some (lookup (is_at (by_pair (hash, number))) es) ≡ true
      → IsReached (number + 1) es
  next_reached number es at there =
      let more : count_taken number es + 1 ≤ count_taken (number + 1) es = one_more number at.0 es there in
      (omega (arith, at.0), omega (arith, at.1, more))

  pub next_fits : (number : ℕ) (es : List ((ℕ × ℕ) × X)) → IsReached number es → from ≡ length es → from < 2 ^ 63 → number + 1 < 2 ^ 64
  next_fits number es at whole small =
      omega (arith, at.1, few number es, whole, small)
