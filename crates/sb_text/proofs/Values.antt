-- The value of digits grows with each digit.
use Rattle.std.proofs.Common.{◌≡◌, ◌∙◌, ℕ, ◌+◌, ◌-◌, ◌*◌, ◌^◌, ◌<◌, ◌≤◌, None, ap, List, [], ◌∷◌, length, drop, get_or, arith}
use Rattle.std.proofs.lemmas.Bool.Decides.{nat_tests}
use Rattle.std.proofs.lemmas.List.{at_drop_more}
use Rattle.std.proofs.Math.Nat.{mul-le-mul_left}
use Rattle.sb_text.specs.Numbers.{digit_of, value_from, below_2_64}

grown : (base n d : ℕ) → 1 ≤ base → n ≤ n * base + d
grown base n d h = omega (arith, mul-le-mul_left n h)

value_least : (base n : ℕ) (bs : List ℕ) → 1 ≤ base → n ≤ value_from base n bs
value_least base n [] h = omega arith
value_least base n (b ∷ bs) h = omega (arith, grown base n (digit_of b) h, value_least base (n * base + digit_of b) bs h)

below_none : (n : ℕ) → 2 ^ 64 ≤ n → below_2_64 n ≡ None
below_none n h = grind (arith, nat_tests)

pub value_past : (base n : ℕ) (bs : List ℕ) (i : ℕ) → 1 ≤ base → i < length bs → 2 ^ 64 ≤ n * base + digit_of (get_or bs i 0) → below_2_64 (value_from base n (drop i bs)) ≡ None
value_past base n bs i h l k =
    ap below_2_64 (at_drop_more (value_from base n) bs i 0 l) ∙ below_none _ (omega (arith, k, value_least base (n * base + digit_of (get_or bs i 0)) (drop (i + 1) bs) h))
