-- Tests of every number below a limit, by computation.
use Rattle.std.proofs.Common.{◌≡◌, ◌<◌, ◌≤◌, ◌&&◌, subst, true, ℕ, Bool, arith}
use Rattle.std.proofs.Math.Logic.{⊎_elim}
use Rattle.std.specs.Prelude.{zero, suc}
use Rattle.std.proofs.lemmas.Bool.{and_parts, cases_lt}

-- a test holds of each number below n
abbrev pub holds_below : (ℕ → Bool) → ℕ → Bool
holds_below p zero = true
holds_below p (suc n) = p n && holds_below p n

-- so it holds of one of them
pub one_below : (p : ℕ → Bool) (n k : ℕ) → holds_below p n ≡ true → k < n → p k ≡ true
one_below p zero k h less = absurd (omega arith)
one_below p (suc n) k h less =
    let parts = and_parts (p n) (holds_below p n) h in
    ⊎_elim (λ (smaller : k < n). one_below p n k parts.1 smaller)
    (λ (large : n ≤ k). let same : n ≡ k = omega arith in subst (λ (m : ℕ). p m ≡ true) same parts.0) (cases_lt k n)
