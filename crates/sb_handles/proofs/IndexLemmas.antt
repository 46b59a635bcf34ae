-- Where pairs are in their order.
use Rattle.std.proofs.Common.{◌≡◌, ◌∙◌, ℕ, true, arith, ◌==◌}
use Rattle.std.proofs.lemmas.Bool.Decides.{nat_tests}
use Rattle.std.specs.Prelude.{◌&&◌}
use Rattle.std.specs.BTreeMap.{is_at}
use Rattle.sb_base.specs.Orders.{by_pair}

-- two pairs are at one place of the order exactly if they are equal
pub same_pair : (a b c d : ℕ) → is_at (by_pair (a, b)) (c, d) ≡ (a == c && b == d)
same_pair a b c d = grind (arith, nat_tests)

pub own_pair : (a b : ℕ) → is_at (by_pair (a, b)) (a, b) ≡ true
own_pair a b = same_pair a b a b ∙ grind (arith, nat_tests)
