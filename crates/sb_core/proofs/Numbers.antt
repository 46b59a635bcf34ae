-- Tests of numbers, options and sums.
use Rattle.std.proofs.Common.{◌≡◌, ◌≢◌, ℕ, ◌≤◌, ◌<◌, ◌==◌, true, false, Option, None, Some, [], slice_get, arith, ◌+◌}
use Rattle.sb_core.proofs.Names.{nat_lt, nat_tests}

pub self_same : (x : ℕ) → (x == x) ≡ true
self_same x = grind (arith, nat_tests)

pub is_same : (x y : ℕ) → (x == y) ≡ true → x ≡ y
is_same x y e = grind (arith, nat_tests)

pub not_same : (x y : ℕ) → (x == y) ≡ false → x ≢ y
not_same x y e = grind (arith, nat_tests)

pub apart : (x y : ℕ) → y ≢ x → (x == y) ≡ false
apart x y n = grind (arith, nat_tests)

pub itself : (x : ℕ) → x ≤ x
itself x = omega arith

pub is_below : (x y : ℕ) → x < y → nat_lt x y ≡ true
is_below x y l = grind (arith, nat_tests, l)

-- nothing is something
pub none_some : {X : Type 0} (x : X) → ◌≡◌ {A = Option X} None (Some x) → ⊥
none_some x e = cc

-- and what is there is one thing
pub some_same : {X : Type 0} (x y : X) → ◌≡◌ {A = Option X} (Some x) (Some y) → x ≡ y
some_same x y e = cc

pub none_of : {X : Type 0} (i : ℕ) (x : X) → ◌≡◌ {A = Option X} (slice_get [] i) (Some x) → ⊥
none_of i x e = cc

-- sums that begin or end with 0
pub plus_none : (n : ℕ) → n ≡ n + 0
plus_none n = omega arith

pub from_zero : (a b : ℕ) → a ≡ b → b ≡ 0 + a
from_zero a b e = omega (arith, e)

pub least : (n : ℕ) → 0 ≤ n
least n = omega arith
