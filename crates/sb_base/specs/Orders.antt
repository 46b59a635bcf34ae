-- The order of pairs.
use Rattle.std.specs.Prelude.{ℕ}
use Rattle.std.specs.Ordering.{nat_cmp, ordering_then}
use Rattle.std.specs.declared.cmp.Ordering.{Ordering}

-- by the first of a pair, and then by the second
abbrev pub by_pair : ℕ × ℕ → ℕ × ℕ → Ordering
by_pair a b = ordering_then (nat_cmp a.0 b.0) (nat_cmp a.1 b.1)
